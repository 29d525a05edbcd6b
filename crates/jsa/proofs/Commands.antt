-- What a command answers where nothing was done.
use Rattle.std.proofs.Common.{◌≡◌, ◌≢◌, inl, inr, ℕ, List, [], ◌∷◌, Option, Some, None, refl, sym, subst}
use Rattle.jsa_files.specs.Store.{Store}
use Rattle.jsa.specs.declared.ended.Ended.{Ended}
use Rattle.jsa.specs.declared.ended.Ended.TheVariants.{Usage, Memory}
use Rattle.command_words.specs.Words.{RunRequest}
use Rattle.command_words.specs.Grammar.{Request, Run, Dump, Asm, HomeRun, MakeHome}
use Rattle.std.specs.Prelude.{Err}
use Rattle.boot_library.specs.declared.fault.HomeFault.TheVariants as home
use Rattle.home_run.specs.declared.end.HomeEnd.TheVariants as ends
use Rattle.command_words.specs.HomeWords.{HomeRequest}
use Rattle.home_run.specs.Answers.{AnswersRun}
use Rattle.jsa_files.specs.Told.{reads_told}
use Rattle.jsa.specs.Lines.{TakesLine, TakesFront, line_of}
use Rattle.jsa.specs.Command.{RunAnswers, RequestAnswers, Answered, TakesSomeFront, CountsFor, steps_of}
use Rattle.jsa.specs.Completes.{IsOrMemory}
use Rattle.jsa.proofs.Tells.{told, could_front}
use Rattle.jsa.proofs.Growth.{front_none}

run_nothing : (store : Option Store) (r : RunRequest) (out : Option (List ℕ)) → RunAnswers store store r out out Memory
run_nothing store r out = inl (front_none (reads_told store) (reads_told store) (r.archive ∷ []) refl, refl)

run_memory : (store : Option Store) (faults : ℕ × ℕ) (r : HomeRequest) (out : Option (List ℕ)) → AnswersRun store store faults r out out ends.Memory
run_memory None faults r out = (inl refl, refl)
run_memory (Some s) faults r out = (inl refl, refl)

-- Memory is an answer to any words.
nothing : (request : Option Request) (store : Option Store) (faults : ℕ × ℕ) (out : Option (List ℕ)) → RequestAnswers request store store faults out out [] Memory
nothing None store faults out = (inr refl, refl, refl)
nothing (Some (Run r)) store faults out = (run_nothing store r out, inl refl)
nothing (Some (Dump d)) store faults out = (inl (refl, refl), λ e. absurd cc)
nothing (Some (Asm a)) store faults out = (inl refl, inl refl, refl, λ e. absurd cc)
nothing (Some (HomeRun r)) store faults out = record { end = ends.Memory; run = run_memory store faults r out; is = inr refl; tells = inl refl }
nothing (Some (MakeHome dir)) store faults out = (record { made = Err home.Memory; answer = inl refl; is = inr refl }, refl, refl)

pub no_memory : (request : Option Request) (store : Option Store) (faults : ℕ × ℕ) (out before after : Option (List ℕ)) (old new : ℕ) (can_fail : Type 0) (result : Ended) → IsOrMemory result Memory
    → Answered (RequestAnswers request store store faults out out) (steps_of request) before after old new can_fail result
no_memory request store faults out before after old new can_fail result (inl e) = record { subject = []; answer = subst (λ (r : Ended). RequestAnswers request store store faults out out [] r) (sym e) (nothing request store faults out); line = λ other. absurd (other e) }
no_memory request store faults out before after old new can_fail result (inr e) = record { subject = []; answer = subst (λ (r : Ended). RequestAnswers request store store faults out out [] r) (sym e) (nothing request store faults out); line = λ other. absurd (other e) }

-- Words outside the grammar.
pub usage : (request : Option Request) (store : Option Store) (faults : ℕ × ℕ) (out before after : Option (List ℕ)) (old new : ℕ) (can_fail : Type 0) (result : Ended) → None ≡ request → IsOrMemory result Usage
    → (result ≢ Memory → TakesLine before after old new can_fail (line_of Usage [] 0)) → Answered (RequestAnswers request store store faults out out) (steps_of request) before after old new can_fail result
usage None store faults out before after old new can_fail result e same line = told (RequestAnswers None store store faults out out) [] 0 before after old new can_fail Usage result (inl refl, refl, refl) (inr refl, refl, refl) same line
usage (Some request) store faults out before after old new can_fail result e same line = absurd cc

pub usage_front : (request : Option Request) (store : Option Store) (out before after : Option (List ℕ)) (reads files outs : ℕ) → None ≡ request → TakesFront before after Usage [] 0
    → TakesSomeFront (RequestAnswers request store store (files, files) out out) (CountsFor request files files outs outs) (steps_of request) before after reads reads
usage_front None store out before after reads files outs e front = could_front (RequestAnswers None store store (files, files) out out) (CountsFor None files files outs outs) [] 0 before after Usage reads reads (inl refl, refl, refl) refl (refl, refl) front
usage_front (Some request) store out before after reads files outs e front = absurd cc
