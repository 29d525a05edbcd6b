-- No more classes are loaded than there are files.
use Rattle.std.proofs.Common.{◌+◌, ◌<◌, ◌≤◌, List, [], ◌∷◌, length, arith}
use Rattle.std.specs.FinMap.{len}
use Rattle.loader_rules.specs.declared.loader.Loader.TheVariants.{App}
use Rattle.class_record.specs.Files.{Name, RunFiles}
use Rattle.class_record.specs.Orders.{IsOrder}
use Rattle.class_record.proofs.Room.{left, left_falls, left_small}

-- Each loaded class has a file that the others leave.
pub order_small : (p : RunFiles) (order : List Name) → IsOrder p order → length order + left p order ≤ left p []
order_small p [] o = omega arith
order_small p (name ∷ older) o =
    let k = o.0 in
    let before : length older + left p older ≤ left p [] = order_small p older o.1 in
    let falls : left p (name ∷ older) < left p older = left_falls p older App name k.file k.tree k.found k.is_new k.spells k.named in
    omega arith

pub order_within : (p : RunFiles) (order : List Name) → IsOrder p order → length order ≤ len p.contents
order_within p order o =
    let small : length order + left p order ≤ left p [] = order_small p order o in
    let all : left p [] ≤ len p.contents = left_small p [] in
    omega arith
