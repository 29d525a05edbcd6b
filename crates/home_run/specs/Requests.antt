-- Where the classes of a run over a home come from.
use Rattle.std.specs.Prelude.{ℕ, List, [], ◌∷◌, ◌++◌, codes}
use Rattle.std.specs.List.{filter_map}
use Rattle.jsa_files.specs.Store.{Contents}
use Rattle.loader_rules.specs.Lists.{FolderLists}
use Rattle.class_record.specs.Files.{Name, RunFiles}
use Rattle.class_record.specs.Loading.{begun_in, order_after}
use Rattle.class_record.specs.Worlds.{ClassWorld, world_of_files}
use Rattle.class_record.specs.Calls.{newly}
use Rattle.class_record.specs.Starting.{Started, start}
use Rattle.command_words.specs.HomeWords.{HomeRequest}

-- The boot folder and the platform folder are the home's.
abbrev pub folder_lists : HomeRequest → FolderLists
folder_lists r = record { boot = (r.home ++ codes "/boot") ∷ []; platform = (r.home ++ codes "/platform") ∷ []; app = r.folders }

-- what the files hold
abbrev pub run_files : Contents → HomeRequest → RunFiles
run_files contents r = record { contents = contents; folders = folder_lists r }

abbrev pub run_world : Contents → HomeRequest → ClassWorld
run_world contents r = world_of_files (run_files contents r)

-- the start of the run, in which nothing was loaded before
abbrev pub started : Contents → HomeRequest → Started
started contents r = start (run_world contents r) r.name

-- the loaded classes in load order: no main class that is run yet loads further ones
abbrev pub load_order : Contents → HomeRequest → List Name
load_order contents r = order_after [] (started contents r).events

-- The paths of the class files that are read: those of the names that are found, in the order in which their loading begins.
abbrev pub paths_read : Contents → HomeRequest → List (List ℕ)
paths_read contents r = filter_map (run_world contents r).path (newly [] (begun_in (started contents r).events))
