-- What a store and a sink in memory hold, and what their calls leave.
use Rattle.std.specs.Prelude.{ℕ, List, ◌++◌, take, map, String, unwrap_or, Result, Ok, Err, refl}
use Rattle.std.specs.Global.{Vec, Global}
use Rattle.std.specs.String.{string_bytes}
use Rattle.std.specs.FinMap.{from_entries, insert, code}
use Rattle.std.specs.Coded.{Coded, code_by, coded×, coded_ℕ, coded_list}
use Rattle.jsa_files.specs.declared.fault.FilesFault.{FilesFault}
use Rattle.jsa_files.specs.declared.fault.FilesFault.TheVariants as files
use Rattle.jsa_files.specs.declared.fault.SinkFault.{SinkFault}
use Rattle.jsa_files.specs.declared.fault.SinkFault.TheVariants as sink
use Rattle.jsa_files.specs.Plans.{Plan, plan_code, due, counted, after_call}
use Rattle.jsa_files.specs.Store.{Store, Contents, ReadAnswer, reads_after}

-- a file of the map, as path and bytes
abbrev pub entry : (String Global × Vec ℕ) → (List ℕ × List ℕ)
entry e = (string_bytes e.0, e.1.items)

abbrev pub contents_of : List (String Global × Vec ℕ) → Contents
contents_of files = from_entries (map entry files)

-- the bytes of each path
abbrev pub paths_of : List (String Global) → List (List ℕ)
paths_of paths = map (λ path. string_bytes path) paths

-- A store in memory: its contents and its reads, how many calls that read and that write have failed, and
-- its plan.
pub record StoreState : Type 0 where
  pub contents : Contents
  pub reads : List (List ℕ)
  pub read_faults : ℕ
  pub write_faults : ℕ
  pub plan : Plan

-- what it tells
abbrev pub store_of : StoreState → Store
store_of state = record { contents = state.contents; reads = state.reads }

-- It is coded as its five parts.
abbrev pub store_code : Coded StoreState
store_code = code_by ((Contents × List (List ℕ)) × ((ℕ × ℕ) × Plan))
    (coded× (coded× (code (coded_list coded_ℕ) (coded_list coded_ℕ)) (coded_list (coded_list coded_ℕ))) (coded× (coded× coded_ℕ coded_ℕ) plan_code))
    (λ s. ((s.contents, s.reads), ((s.read_faults, s.write_faults), s.plan))) (λ p. record { contents = p.0.0; reads = p.0.1; read_faults = p.1.0.0; write_faults = p.1.0.1; plan = p.1.1 }) (λ _. refl)

-- A call that answers Failed is counted as a fault, and no other is.
abbrev pub faults_after : {T : Type 0} → ℕ → Result T FilesFault → ℕ
faults_after faults (Ok x) = faults
faults_after faults (Err files.Failed) = counted faults
faults_after faults (Err (files.TooLarge size)) = faults
faults_after faults (Err (files.TooMany count)) = faults
faults_after faults (Err files.Memory) = faults

-- A read leaves the contents, and is noted where it hands out bytes.
abbrev pub after_read : StoreState → List ℕ → ReadAnswer → StoreState
after_read state path result = record {
  contents = state.contents;
  reads = reads_after state.reads path result;
  read_faults = faults_after state.read_faults result;
  write_faults = state.write_faults;
  plan = after_call state.plan;
}

-- A call that reads and hands out no bytes leaves the contents and the reads.
abbrev pub after_look : {T : Type 0} → StoreState → Result T FilesFault → StoreState
after_look state result = record {
  contents = state.contents;
  reads = state.reads;
  read_faults = faults_after state.read_faults result;
  write_faults = state.write_faults;
  plan = after_call state.plan;
}

-- What a write leaves at its path: all of the bytes, or where it fails the first of them, as many as the plan
-- keeps. Where memory runs out, what was there.
abbrev pub contents_after : {T : Type 0} → StoreState → List ℕ → List ℕ → Result T FilesFault → Contents
contents_after state path bytes (Ok x) = insert state.contents path bytes
contents_after state path bytes (Err files.Failed) = insert state.contents path (take (unwrap_or (due state.plan) 0) bytes)
contents_after state path bytes (Err (files.TooLarge size)) = state.contents
contents_after state path bytes (Err (files.TooMany count)) = state.contents
contents_after state path bytes (Err files.Memory) = state.contents

-- A write leaves the reads, and is counted as a fault where it fails.
abbrev pub after_write : {T : Type 0} → StoreState → List ℕ → List ℕ → Result T FilesFault → StoreState
after_write state path bytes result = record {
  contents = contents_after state path bytes result;
  reads = state.reads;
  read_faults = state.read_faults;
  write_faults = faults_after state.write_faults result;
  plan = after_call state.plan;
}

-- A sink in memory: what it took, how many puts have failed, and its plan.
pub record SinkState : Type 0 where
  pub taken : List ℕ
  pub faults : ℕ
  pub plan : Plan

-- It is coded as its three parts.
abbrev pub sink_code : Coded SinkState
sink_code = code_by (List ℕ × (ℕ × Plan)) (coded× (coded_list coded_ℕ) (coded× coded_ℕ plan_code)) (λ s. (s.taken, (s.faults, s.plan))) (λ p. record { taken = p.0; faults = p.1.0; plan = p.1.1 }) (λ _. refl)

-- A put takes all of the bytes. One that fails takes the first of them, as many as the plan keeps, and is
-- counted as a fault. One that memory runs out in takes none.
abbrev pub after_put : {T : Type 0} → SinkState → List ℕ → Result T SinkFault → SinkState
after_put state bytes (Ok x) = record { taken = state.taken ++ bytes; faults = state.faults; plan = after_call state.plan }
after_put state bytes (Err sink.Failed) = record { taken = state.taken ++ take (unwrap_or (due state.plan) 0) bytes; faults = counted state.faults; plan = after_call state.plan }
after_put state bytes (Err sink.Memory) = record { taken = state.taken; faults = state.faults; plan = after_call state.plan }
