use Rattle.std.proofs.Common.{subst}
use Rattle.class_tree.specs.Outcomes.{Gives}
use Rattle.class_tree.proofs.Spelled.{again, is_found, has_no_version}
use Rattle.class_tree.proofs.pool_reading.read_pool.Goals as goal

pub returns-clause-found : goal.returns-clause-found
returns-clause-found c = is_found c.args.cursor.now c.linked_pool.new.cursor c.linked_pool.result c.are_bytes.ensures c.linked_pool.ensures

pub returns-clause-only : goal.returns-clause-only
returns-clause-only c = λ pool rest s. subst (λ f. Gives c.linked_pool.result c.linked_pool.new.cursor f) (again c.args.cursor.now pool rest s) c.linked_pool.ensures

pub returns-clause-no_version : goal.returns-clause-no_version
returns-clause-no_version c = has_no_version c.args.cursor.now c.linked_pool.new.cursor c.linked_pool.result c.linked_pool.ensures
