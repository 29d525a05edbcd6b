use Rattle.std.proofs.Common.{◌≡◌, ◌+◌, ◌++◌, length}
use Rattle.class_record.specs.Records.{instance_fields, static_fields}
use Rattle.loaded_classes.specs.Slots.{field_slots}
use Rattle.loaded_classes.proofs.layout.layout_of.Given as goal

abbrev pub invariant-loop-rest : goal.invariant-loop-rest
invariant-loop-rest l = record {
  slots : l.slots ++ field_slots l.next.instance l.next.fixed l.rest ≡ field_slots l.above 0 l.fields;
  sum : l.next.instance + l.next.fixed + length l.rest ≡ l.above + length l.fields;
  instance : l.next.instance + instance_fields l.rest ≡ l.above + instance_fields l.fields;
  fixed : l.next.fixed + static_fields l.rest ≡ static_fields l.fields;
}

abbrev pub decreases-loop-rest : goal.decreases-loop-rest
decreases-loop-rest l = length l.rest
