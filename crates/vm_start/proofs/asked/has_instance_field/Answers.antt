use Rattle.std.proofs.Common.{◌<◌, ◌^◌, length, true, false, sym, ◌∙◌, arith}
use Rattle.vm_start.specs.Asked.{fields_at}
use Rattle.class_record.specs.Required.{is_wanted}
use Rattle.vm_start.specs.Table.{wanted_of}
use Rattle.vm_start.proofs.Bounds.{has_few}
use Rattle.vm_start.proofs.Searches.{any_none, any_past, any_at}
use Rattle.vm_start.proofs.asked.has_instance_field.Goals as goal

pub returns-in-None : goal.returns-in-None
returns-in-None g c =
    sym (any_none (is_wanted (wanted_of c.args.wanted)) (fields_at (g.C.Classes.classes c.args.classes.now) c.args.id.0) c.loop-k.k c.in-None.ensures) ∙ c.loop-k.invariant

pub returns-in-Some-true : goal.returns-in-Some-true
returns-in-Some-true g c =
    sym (any_at (is_wanted (wanted_of c.args.wanted)) (fields_at (g.C.Classes.classes c.args.classes.now) c.args.id.0) c.loop-k.k true (rw c.in-Some-true.field-0-test at c.in-Some-true.ensures)) ∙ c.loop-k.invariant

pub loop-k-preserved : goal.loop-k-preserved
loop-k-preserved g c =
    sym (any_at (is_wanted (wanted_of c.args.wanted)) (fields_at (g.C.Classes.classes c.args.classes.now) c.args.id.0) c.loop-k.k false (rw c.in-Some-false.field-0-test at c.in-Some-false.ensures)) ∙ c.loop-k.invariant

pub returns : goal.returns
returns g c =
    let few : length (fields_at (g.C.Classes.classes c.args.classes.now) c.args.id.0) < 2 ^ 16 = (has_few (g.C.Classes.classes c.args.classes.now) c.args.id.0 c.count-count.ensures.built).fields in
    sym (any_past (is_wanted (wanted_of c.args.wanted)) (fields_at (g.C.Classes.classes c.args.classes.now) c.args.id.0) c.loop-k.k (omega arith)) ∙ c.loop-k.invariant
