-- Searches through files one after the other.
use Rattle.std.proofs.Common.{◌≡◌, ◌≢◌, ℕ, List, [], ◌∷◌, ◌++◌, Option, None, Some, Ok, Err, is_some, refl, sym, ◌∙◌, ap, subst, arith}
use Rattle.std.specs.List.{Contains}
use Rattle.std.specs.Option.{option_or}
use Rattle.std.specs.FinMap.{get}
use Rattle.std.proofs.lemmas.List.Folds.{find-append}
use Rattle.std.proofs.lemmas.List.Elements.{Contains-append_left, Contains-append_right}
use Rattle.jsa_files.specs.declared.fault.FilesFault.{FilesFault}
use Rattle.jsa_files.specs.declared.fault.FilesFault.TheVariants.{Failed, TooLarge, TooMany, Memory}
use Rattle.jsa_files.specs.Store.{Store, Contents, AnswersAsTold, store_after_read}
use Rattle.loader_rules.specs.declared.loader.Found.{Found}
use Rattle.loader_rules.specs.Finding.{Place, first_of}
use Rattle.loader_rules.specs.Outcomes.{FindAnswer, Finds, IsAmong, place_of, reads_after}
use Rattle.loader_rules.specs.Searching.{Searches, FirstAsTold, store_after}

-- ---- one file

first_here : (contents : Contents) (file : Place) (bytes : List ℕ) → get contents file.path ≡ Some bytes → first_of contents (file ∷ []) ≡ Some file
first_here contents file bytes h = rw h refl

first_absent : (contents : Contents) (file : Place) → get contents file.path ≡ None → first_of contents (file ∷ []) ≡ None
first_absent contents file h = rw h refl

found_told : (before after : Option Store) (f : Found) (path : List ℕ) → AnswersAsTold before path (Ok (Some f.bytes)) → FirstAsTold before (place_of f path ∷ []) (Ok (Some f))
found_told None after f path h = tt
found_told (Some store) after f path h = (path, first_here store.contents (place_of f path) f.bytes.items h, h)

found_store : (before : Option Store) (f : Found) (path : List ℕ) → AnswersAsTold before path (Ok (Some f.bytes)) → store_after_read before path (Ok (Some f.bytes)) ≡ store_after before (place_of f path ∷ []) (Ok (Some f))
found_store None f path h = refl
found_store (Some store) f path h = ap (λ (d : Option Place). Some (record { contents = store.contents; reads = reads_after store.reads d (Ok (Some f)) })) (sym (first_here store.contents (place_of f path) f.bytes.items h))

here : (x : Place) → Contains (x ∷ []) x
here x = (0, omega arith, refl)

pub one_found : (before after : Option Store) (f : Found) (path : List ℕ) → AnswersAsTold before path (Ok (Some f.bytes)) → after ≡ store_after_read before path (Ok (Some f.bytes)) → Searches before after (place_of f path ∷ []) (Ok (Some f))
one_found before after f path h s = record {
  answer = found_told before after f path h;
  among = (path, here (place_of f path));
  store = s ∙ found_store before f path h;
}

none_told : (before : Option Store) (file : Place) → AnswersAsTold before file.path (Ok None) → FirstAsTold before (file ∷ []) (Ok None)
none_told None file h = tt
none_told (Some store) file h = first_absent store.contents file h

none_store : (before : Option Store) (file : Place) → store_after_read before file.path (Ok None) ≡ store_after before (file ∷ []) (Ok None)
none_store None file = refl
none_store (Some store) file = refl

pub one_absent : (before after : Option Store) (file : Place) → AnswersAsTold before file.path (Ok None) → after ≡ store_after_read before file.path (Ok None) → Searches before after (file ∷ []) (Ok None)
one_absent before after file h s = record {
  answer = none_told before file h;
  among = tt;
  store = s ∙ none_store before file;
}

fault_told : (before : Option Store) (file : Place) (e : FilesFault) → AnswersAsTold before file.path (Err e) → FirstAsTold before (file ∷ []) (Err e)
fault_told None file e h = tt
fault_told (Some store) file Failed h = tt
fault_told (Some store) file (TooLarge size) h = (file, first_here store.contents file h.0 h.1, h.0, h.1, h.2)
fault_told (Some store) file (TooMany count) h = tt
fault_told (Some store) file Memory h = tt

fault_among : (file : Place) (e : FilesFault) → IsAmong (file ∷ []) (Err e)
fault_among file Failed = λ h. absurd cc
fault_among file (TooLarge size) = λ h. absurd cc
fault_among file (TooMany count) = tt
fault_among file Memory = tt

fault_store : (before : Option Store) (files : List Place) (path : List ℕ) (e : FilesFault) → store_after_read before path (Err e) ≡ store_after before files (Err e)
fault_store None files path e = refl
fault_store (Some store) files path e = refl

pub one_fault : (before after : Option Store) (file : Place) (e : FilesFault) → AnswersAsTold before file.path (Err e) → after ≡ store_after_read before file.path (Err e) → Searches before after (file ∷ []) (Err e)
one_fault before after file e h s = record {
  answer = fault_told before file e h;
  among = fault_among file e;
  store = s ∙ fault_store before (file ∷ []) file.path e;
}

-- ---- no file, and no memory

nothing_told : (before : Option Store) → FirstAsTold before [] (Ok None)
nothing_told None = tt
nothing_told (Some store) = refl

pub unchanged : (before : Option Store) (files : List Place) → store_after before files (Ok None) ≡ before
unchanged None files = refl
unchanged (Some store) files = refl

pub none_searched : (before : Option Store) → Searches before before [] (Ok None)
none_searched before = record {
  answer = nothing_told before;
  among = tt;
  store = sym (unchanged before []);
}

memory_told : (before : Option Store) (files : List Place) → FirstAsTold before files (Err Memory)
memory_told None files = tt
memory_told (Some store) files = tt

memory_store : (before : Option Store) (files : List Place) → before ≡ store_after before files (Err Memory)
memory_store None files = refl
memory_store (Some store) files = refl

pub no_memory : (before after : Option Store) (files : List Place) → after ≡ before → Searches before after files (Err Memory)
no_memory before after files same = record {
  answer = memory_told before files;
  among = tt;
  store = same ∙ memory_store before files;
}

-- ---- files behind files of which none is there

first_more : (contents : Contents) (a b : List Place) → first_of contents a ≡ None → first_of contents (a ++ b) ≡ first_of contents b
first_more contents a b none = find-append (λ file. is_some (get contents file.path)) a b ∙ ap (λ o. option_or o (first_of contents b)) none

told_more : (before : Option Store) (a b : List Place) (r : FindAnswer) → FirstAsTold before a (Ok None) → FirstAsTold before b r → FirstAsTold before (a ++ b) r
told_more None a b r none h = tt
told_more (Some store) a b r none h = subst (λ (d : Option Place). Finds store.contents d r) (sym (first_more store.contents a b none)) h

store_more : (before : Option Store) (a b : List Place) (r : FindAnswer) → FirstAsTold before a (Ok None) → store_after before b r ≡ store_after before (a ++ b) r
store_more None a b r none = refl
store_more (Some store) a b r none = ap (λ (d : Option Place). Some (record { contents = store.contents; reads = reads_after store.reads d r })) (sym (first_more store.contents a b none))

some_more : (a b : List Place) → b ≢ [] → a ++ b ≢ []
some_more [] b h = h
some_more (x ∷ a) b h = λ e. absurd cc

among_more : (a b : List Place) (r : FindAnswer) → IsAmong b r → IsAmong (a ++ b) r
among_more a b (Ok None) h = tt
among_more a b (Ok (Some f)) h = (h.0, Contains-append_right a b (place_of f h.0) h.1)
among_more a b (Err Failed) h = some_more a b h
among_more a b (Err (TooLarge size)) h = some_more a b h
among_more a b (Err (TooMany count)) h = tt
among_more a b (Err Memory) h = tt

behind_none : (before after : Option Store) (a b : List Place) (r : FindAnswer) → FirstAsTold before a (Ok None) → Searches before after b r → Searches before after (a ++ b) r
behind_none before after a b r none h = record {
  answer = told_more before a b r none h.answer;
  among = among_more a b r h.among;
  store = h.store ∙ store_more before a b r none;
}

pub search_more : (before middle after : Option Store) (a b : List Place) (r : FindAnswer) → Searches before middle a (Ok None) → Searches middle after b r → Searches before after (a ++ b) r
search_more before middle after a b r none h =
    behind_none before after a b r none.answer (subst (λ (s : Option Store). Searches s after b r) (none.store ∙ unchanged before a) h)

-- ---- files behind those that decide

first_stops : (contents : Contents) (a b : List Place) (file : Place) → first_of contents a ≡ Some file → first_of contents (a ++ b) ≡ Some file
first_stops contents a b file h = find-append (λ file. is_some (get contents file.path)) a b ∙ ap (λ o. option_or o (first_of contents b)) h

found_stops : (before : Option Store) (a b : List Place) (f : Found) → FirstAsTold before a (Ok (Some f)) → FirstAsTold before (a ++ b) (Ok (Some f))
found_stops None a b f h = tt
found_stops (Some store) a b f h = (h.0, first_stops store.contents a b (place_of f h.0) h.1, h.2)

found_store_stops : (before : Option Store) (a b : List Place) (f : Found) → FirstAsTold before a (Ok (Some f)) → store_after before a (Ok (Some f)) ≡ store_after before (a ++ b) (Ok (Some f))
found_store_stops None a b f h = refl
found_store_stops (Some store) a b f h =
    ap (λ (d : Option Place). Some (record { contents = store.contents; reads = reads_after store.reads d (Ok (Some f)) })) (h.1 ∙ sym (first_stops store.contents a b (place_of f h.0) h.1))

pub search_found : (before after : Option Store) (a b : List Place) (f : Found) → Searches before after a (Ok (Some f)) → Searches before after (a ++ b) (Ok (Some f))
search_found before after a b f h = record {
  answer = found_stops before a b f h.answer;
  among = (h.among.0, Contains-append_left a b (place_of f h.among.0) h.among.1);
  store = h.store ∙ found_store_stops before a b f h.answer;
}

fault_stops : (before : Option Store) (a b : List Place) (e : FilesFault) → FirstAsTold before a (Err e) → FirstAsTold before (a ++ b) (Err e)
fault_stops None a b e h = tt
fault_stops (Some store) a b Failed h = tt
fault_stops (Some store) a b (TooLarge size) h = (h.0, first_stops store.contents a b h.0 h.1, h.2, h.3, h.4)
fault_stops (Some store) a b (TooMany count) h = tt
fault_stops (Some store) a b Memory h = tt

some_still : (a b : List Place) → a ≢ [] → a ++ b ≢ []
some_still [] b h = absurd (h refl)
some_still (x ∷ a) b h = λ e. absurd cc

fault_still : (a b : List Place) (e : FilesFault) → IsAmong a (Err e) → IsAmong (a ++ b) (Err e)
fault_still a b Failed h = some_still a b h
fault_still a b (TooLarge size) h = some_still a b h
fault_still a b (TooMany count) h = tt
fault_still a b Memory h = tt

fault_store_stops : (before : Option Store) (a b : List Place) (e : FilesFault) → store_after before a (Err e) ≡ store_after before b (Err e)
fault_store_stops None a b e = refl
fault_store_stops (Some store) a b e = refl

pub search_fault : (before after : Option Store) (a b : List Place) (e : FilesFault) → Searches before after a (Err e) → Searches before after (a ++ b) (Err e)
search_fault before after a b e h = record {
  answer = fault_stops before a b e h.answer;
  among = fault_still a b e h.among;
  store = h.store ∙ fault_store_stops before a (a ++ b) e;
}
