-- What err took of a line.
use Rattle.std.proofs.Common.{◌≡◌, ◌≢◌, ◌≤◌, ◌⊎◌, subst, sym, inl, inr, refl, ℕ, List, [], Option}
use Rattle.jsa_files.specs.Sinks.{GrowsByFront}
use Rattle.jsa.specs.Command.{Answered, CouldAnswer, TakesSomeFront, CountsReads}
use Rattle.jsa.specs.Completes.{IsOrMemory}
use Rattle.jsa.specs.Lines.{TakesFront, TakesLine, CountsErr, line_of}
use Rattle.jsa.specs.declared.ended.Ended.{Ended}
use Rattle.jsa.specs.declared.ended.Ended.TheVariants.{Exit, Usage, BadText, NoBoot, NoMain, Missing, NotShared, Stopped, Unsupported, ReadFault, WriteFault, Limit, Memory}

-- The line of want of memory tells neither a name nor a limit.
pub memory_front : (a b : Option (List ℕ)) (ended : Ended) (subject : List ℕ) (steps : ℕ) → GrowsByFront a b (line_of Memory [] 0) → TakesFront a b ended subject steps
unfolding line_of
memory_front a b ended subject steps h = inr h

-- Memory ran out before there was an end.
pub memory_told : (a b : Option (List ℕ)) (Answers : List ℕ → Ended → Type 0) (Writes : Ended → Type 0) (steps r0 r1 : ℕ) → TakesFront a b Memory [] 0 → TakesSomeFront Answers Writes steps a b r0 r1
unfolding line_of
memory_told a b Answers Writes steps r0 r1 (inl h) = record { told = Memory; subject = []; why = inl refl; front = h }
memory_told a b Answers Writes steps r0 r1 (inr h) = record { told = Memory; subject = []; why = inl refl; front = h }

-- An end was told, or memory ran out in telling it.
pub told : (Answers : List ℕ → Ended → Type 0) (subject : List ℕ) (steps : ℕ) (a b : Option (List ℕ)) (old new : ℕ) (can_fail : Type 0) (ended result : Ended)
    → Answers subject ended → Answers subject Memory → IsOrMemory result ended → (result ≢ Memory → TakesLine a b old new can_fail (line_of ended subject steps)) → Answered Answers steps a b old new can_fail result
told Answers subject steps a b old new can_fail ended result is or (inl e) line = record {
  subject = subject;
  answer = subst (λ (r : Ended). Answers subject r) (sym e) is;
  line = λ other. subst (λ (r : Ended). TakesLine a b old new can_fail (line_of r subject steps)) (sym e) (line other);
}
told Answers subject steps a b old new can_fail ended result is or (inr e) line = record {
  subject = subject;
  answer = subst (λ (r : Ended). Answers subject r) (sym e) or;
  line = λ other. absurd (other e);
}

pub could_front : (Answers : List ℕ → Ended → Type 0) (Writes : Ended → Type 0) (subject : List ℕ) (steps : ℕ) (a b : Option (List ℕ)) (ended : Ended) (r0 r1 : ℕ) → Answers subject ended → CountsReads r0 r1 ended → Writes ended → TakesFront a b ended subject steps
    → TakesSomeFront Answers Writes steps a b r0 r1
unfolding line_of
could_front Answers Writes subject steps a b ended r0 r1 is reads writes (inl h) = record { told = ended; subject = subject; why = inr (record { cause = is; reads = reads; writes = writes }); front = h }
could_front Answers Writes subject steps a b ended r0 r1 is reads writes (inr h) = record { told = Memory; subject = subject; why = inl refl; front = h }

counts_other : (before now : ℕ) (ended : Ended) → ((code : ℕ) → ended ≢ Exit code) → before ≤ now → CountsErr before now ended
counts_other before now (Exit code) other h = absurd (other code refl)
counts_other before now Usage other h = h
counts_other before now (BadText number) other h = h
counts_other before now NoBoot other h = h
counts_other before now NoMain other h = h
counts_other before now Missing other h = h
counts_other before now (NotShared refuse) other h = h
counts_other before now Stopped other h = h
counts_other before now Unsupported other h = h
counts_other before now ReadFault other h = h
counts_other before now WriteFault other h = h
counts_other before now (Limit quantity limit) other h = h
counts_other before now Memory other h = h

pub counts_err : (before now : ℕ) (ended : Ended) → ((code : ℕ) → ended ≢ Exit code) → before ≤ now → CountsErr before now ended
counts_err before now ended other h = counts_other before now ended other h

-- What holds of each answer.
pub answered_as : (A B : List ℕ → Ended → Type 0) (steps : ℕ) (a b : Option (List ℕ)) (old new : ℕ) (can_fail : Type 0) (ended : Ended) → ((subject : List ℕ) (e : Ended) → A subject e → B subject e) → Answered A steps a b old new can_fail ended → Answered B steps a b old new can_fail ended
answered_as A B steps a b old new can_fail ended f h = record { subject = h.subject; answer = f h.subject ended h.answer; line = h.line }

pub front_as : (A B : List ℕ → Ended → Type 0) (V W : Ended → Type 0) (steps : ℕ) (a b : Option (List ℕ)) (r0 r1 r2 : ℕ) → ((subject : List ℕ) (e : Ended) → A subject e → B subject e) → ((e : Ended) → V e → W e) → r1 ≡ r0
    → TakesSomeFront A V steps a b r1 r2 → TakesSomeFront B W steps a b r0 r2
front_as A B V W steps a b r0 r1 r2 f w e h = record { told = h.told; subject = h.subject; why = could h.told h.why; front = h.front }
  where
    could : (t : Ended) → (t ≡ Memory) ⊎ CouldAnswer (A h.subject) V r1 r2 t → (t ≡ Memory) ⊎ CouldAnswer (B h.subject) W r0 r2 t
    could t (inl is) = inl is
    could t (inr is) = inr (record { cause = f h.subject t is.cause; reads = subst (λ (r : ℕ). CountsReads r r2 t) e is.reads; writes = w t is.writes })
