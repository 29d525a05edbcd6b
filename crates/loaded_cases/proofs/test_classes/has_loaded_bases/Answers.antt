use Rattle.std.proofs.Common.{◌≡◌, ℕ, List, [], ◌∷◌, ◌++◌, map, Option, Some, None, true, subst}
use Rattle.std.specs.List.{AllByRecursion, filter_map}
use Rattle.std.specs.Option.{IfSome, option_to_list}
use Rattle.class_tree.specs.declared.tree.ClassTree.{ClassTree}
use Rattle.class_tree.specs.WellFormed.{class_name}
use Rattle.class_record.specs.declared.bases.BaseKind.{BaseKind}
use Rattle.class_record.specs.declared.bases.BaseKind.TheVariants.{Superclass, Superinterface}
use Rattle.class_record.specs.Files.{Name}
use Rattle.class_record.specs.declared.bases.Base.{Base}
use Rattle.class_record.specs.Trees.{base_of, bases_of}
use Rattle.class_tree.specs.ClassNames.{sup_name, interface_names}
use Rattle.class_record.specs.Facts.{names_of}
use Rattle.class_record.specs.Loading.{is_among}
use Rattle.loaded_cases.proofs.test_classes.has_loaded_bases.Goals as goal

module _ (P : Name → Type 0) where
  abbrev Named : Base → Type 0
  Named base = P base.name

  of_names : (kind : BaseKind) (ns : List Name) → AllByRecursion P ns → AllByRecursion Named (map (base_of kind) ns)
  of_names kind [] all = tt
  of_names kind (n ∷ ns) all = (all.0, of_names kind ns all.1)

  both : (kind : BaseKind) (sup : Option Name) (behind : List Base) → IfSome sup P → AllByRecursion Named behind → AllByRecursion Named (map (base_of kind) (option_to_list sup) ++ behind)
  both kind None behind one all = all
  both kind (Some name) behind one all = (one, all)

  of_bases : (tree : ClassTree) → IfSome (sup_name tree) P → AllByRecursion P (interface_names tree) → AllByRecursion Named (bases_of tree)
  of_bases tree one all = both Superclass (sup_name tree) (map (base_of Superinterface) (interface_names tree)) one (of_names Superinterface (interface_names tree) all)

pub returns-then-is_loaded : goal.returns-then-is_loaded
returns-then-is_loaded c = λ t. of_bases (λ (name : Name). is_among name (names_of c.args.classes.now.classes) ≡ true) c.args.tree.now
    (c.is_loaded.ensures c.if-is_loaded.true)
    (subst (λ (is : List ℕ). AllByRecursion (λ (name : Name). is_among name (names_of c.args.classes.now.classes) ≡ true) (filter_map (class_name c.args.tree.now.pool) is)) c.as_slice.ensures (c.are_loaded.ensures t))
