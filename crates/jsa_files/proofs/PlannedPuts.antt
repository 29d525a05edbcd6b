-- What a put of a sink in memory takes is what every sink's put takes.
use Rattle.std.proofs.Common.{◌≡◌, ℕ, List, ◌++◌, take, drop, Some, Result, Ok, Err, refl, sym, ap, take-append-drop}
use Rattle.std.specs.Option.{unwrap_or}
use Rattle.jsa_files.specs.declared.fault.SinkFault.{SinkFault}
use Rattle.jsa_files.specs.declared.fault.SinkFault.TheVariants as sink
use Rattle.jsa_files.specs.Sinks.{GrowsByFront, Takes}
use Rattle.jsa_files.specs.Plans.{due}
use Rattle.jsa_files.specs.Memory.{SinkState, after_put}
use Rattle.jsa_files.proofs.Taken.{front_nothing}

-- The first bytes are a front.
first_taken : (taken bytes : List ℕ) (count : ℕ) → GrowsByFront (Some taken) (Some (taken ++ take count bytes)) bytes
first_taken taken bytes count = record { front = take count bytes; tail = drop count bytes; whole = sym (take-append-drop count bytes); grows = refl }

pub put_takes : {T : Type 0} (old new : SinkState) (bytes : List ℕ) (r : Result T SinkFault) → new ≡ after_put old bytes r → Takes (Some old.taken) (Some new.taken) bytes r
put_takes old new bytes (Ok x) h = ap (λ (s : SinkState). s.taken) h
put_takes old new bytes (Err sink.Failed) h = rw h (first_taken old.taken bytes (unwrap_or (due old.plan) 0))
put_takes old new bytes (Err sink.Memory) h = rw h (front_nothing (Some old.taken) bytes)
