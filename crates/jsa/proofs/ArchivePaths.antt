-- A dump's archive, and the class list of a run over a home, are at no path of a class file.
use Rattle.std.proofs.Common.{◌≡◌, ℕ, List, true, false, IsTrue, codes, Option, Some, None, refl, ap, subst}
use Rattle.std.specs.FinMap.{get}
use Rattle.std.proofs.lemmas.Bool.{false≢true}
use Rattle.jsa_base.proofs.Codecs.{some_is}
use Rattle.jsa_files.specs.Store.{Contents, Store}
use Rattle.command_words.specs.Words.{ends_in}
use Rattle.command_words.specs.Grammar.{request_of, Request, Run, Dump, Asm, HomeRun, MakeHome}
use Rattle.command_words.specs.HomeWords.{HomeRequest}
use Rattle.command_words.proofs.ArchivePaths.{dump_archive}
use Rattle.command_words.proofs.HomePaths.{home_list_apart}
use Rattle.jsa_files.specs.Told.{contents_told}
use Rattle.jsa.specs.Command.{OthersStay, HomeRunLeaves, Leaves, ClassFilesStay, KeepsClassFiles}

-- ---- what stays

all_stay : (old new : Option Contents) → new ≡ old → ClassFilesStay old new
all_stay None new e = e
all_stay (Some old) None e = absurd cc
all_stay (Some old) (Some new) e = λ path ends. ap (λ (c : Contents). get c path) (some_is new old e)

others_stay : (archive : List ℕ) (old new : Option Contents) → ends_in (codes ".class") archive ≡ false → OthersStay archive old new → ClassFilesStay old new
others_stay archive None new apart h = h
others_stay archive (Some old) None apart h = h
others_stay archive (Some old) (Some new) apart h = λ path ends. h path (λ e. false≢true (subst IsTrue apart (subst (λ (p : List ℕ). IsTrue (ends_in (codes ".class") p)) e ends)))

home_stays : (words : List (List ℕ)) (r : HomeRequest) (list : Option (List ℕ)) (old new : Option Contents) → request_of words ≡ Some (HomeRun r) → r.list ≡ list → HomeRunLeaves list old new → ClassFilesStay old new
home_stays words r None old new e is h = all_stay old new h
home_stays words r (Some path) old new e is h = others_stay path old new (home_list_apart words r path e is) h

-- The class files hold what they held, unless an assembly or the making of a home is asked for.
pub classes_stay : (request : Option Request) (words : List (List ℕ)) (old new : Option Store) → request_of words ≡ request → Leaves request old new → KeepsClassFiles request (contents_told old) (contents_told new)
classes_stay None words old new e h = all_stay (contents_told old) (contents_told new) h
classes_stay (Some (Run r)) words old new e h = all_stay (contents_told old) (contents_told new) h
classes_stay (Some (Dump d)) words old new e h = others_stay d.archive (contents_told old) (contents_told new) (dump_archive words d e) h
classes_stay (Some (Asm a)) words old new e h = tt
classes_stay (Some (HomeRun r)) words old new e h = home_stays words r r.list (contents_told old) (contents_told new) e refl h
classes_stay (Some (MakeHome dir)) words old new e h = tt
