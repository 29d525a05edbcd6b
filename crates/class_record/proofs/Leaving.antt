-- What events leave: one list of them after another, and events in which nothing new happens.
use Rattle.std.proofs.Common.{◌≡◌, ℕ, List, [], ◌∷◌, ◌++◌, length, Bool, true, false, if◌then◌else◌, Option, Some, None, refl, sym, ◌∙◌, ap, append_assoc}
use Rattle.std.specs.Prelude.{nat_lt}
use Rattle.std.specs.List.{filter_map, AllByRecursion}
use Rattle.std.proofs.lemmas.List.{append-nil}
use Rattle.std.proofs.lemmas.List.Elements.{filter_map-append}
use Rattle.jsa_base.specs.declared.quantity.Quantity.{Quantity}
use Rattle.jsa_base.specs.declared.quantity.Quantity.TheVariants.{FileSize, Loaded}
use Rattle.jsa_files.specs.declared.TheConstants.{MAX_FILE}
use Rattle.class_record.specs.declared.fault.TheConstants.{MAX_LOADED}
use Rattle.class_record.specs.Files.{Name}
use Rattle.class_record.specs.Loading.{Event, Begins, Completes, is_among, appended, begun_in, completed_in, order_after, begun_after}
use Rattle.class_record.specs.Worlds.{ClassWorld}
use Rattle.class_record.specs.Calls.{passed, newly, Leaves, Progress}
use Rattle.class_record.proofs.Orders.{appended_append, appended_known, newly_append, newly_known}
use Rattle.class_record.proofs.Events.{begun_append, completed_append}

-- ---- one list of events behind another

pub order_append : (order : List Name) (d e : List Event) → order_after order (d ++ e) ≡ order_after (order_after order d) e
order_append order d e = ap (appended order) (completed_append d e) ∙ appended_append order (completed_in d) (completed_in e)

pub begun_after_append : (begun : List Name) (d e : List Event) → begun_after begun (d ++ e) ≡ begun_after (begun_after begun d) e
begun_after_append begun d e = ap (appended begun) (begun_append d e) ∙ appended_append begun (begun_in d) (begun_in e)

-- ---- limits

-- a limit that is passed, or none
abbrev Passed : Type 0
Passed = Option (Quantity × ℕ)

-- where none is passed in front, what follows decides
begins_on : (t : Bool) (x : Quantity × ℕ) (a b c : Passed) → (a ≡ None → b ≡ c) → (if t then Some x else a) ≡ None → (if t then Some x else b) ≡ c
begins_on true x a b c f h = absurd cc
begins_on false x a b c f h = f h

completes_on : (t u : Bool) (x : Quantity × ℕ) (a b c d : Passed) (old new : List Name) (rest : List Name → Passed)
    → (a ≡ None → b ≡ rest old) → (c ≡ None → d ≡ rest new)
    → (if t then a else if u then c else Some x) ≡ None → (if t then b else if u then d else Some x) ≡ rest (if t then old else new)
completes_on true u x a b c d old new rest f g h = f h
completes_on false true x a b c d old new rest f g h = g h
completes_on false false x a b c d old new rest f g h = absurd cc

-- Where the first events pass no limit, those behind them decide.
pub passed_behind : (w : ClassWorld) (order : List Name) (d e : List Event) → passed w order d ≡ None → passed w order (d ++ e) ≡ passed w (order_after order d) e
passed_behind w order [] e h = refl
passed_behind w order (Begins n ∷ d) e h =
    begins_on (w.is_large n) (FileSize, MAX_FILE) (passed w order d) (passed w order (d ++ e)) (passed w (order_after order d) e) (passed_behind w order d e) h
passed_behind w order (Completes n ∷ d) e h =
    completes_on (is_among n order) (nat_lt (length order) MAX_LOADED) (Loaded, MAX_LOADED) (passed w order d) (passed w order (d ++ e))
    (passed w (order ++ n ∷ []) d) (passed w (order ++ n ∷ []) (d ++ e)) order (order ++ n ∷ []) (λ o. passed w (order_after o d) e)
    (passed_behind w order d e) (passed_behind w (order ++ n ∷ []) d e) h

pub passed_append : (w : ClassWorld) (order : List Name) (d e : List Event) (x : Quantity × ℕ) → passed w order d ≡ None → passed w (order_after order d) e ≡ Some x
    → passed w order (d ++ e) ≡ Some x
passed_append w order d e x h k = passed_behind w order d e h ∙ k

begins_first : (t : Bool) (y : Quantity × ℕ) (a b : Passed) (x : Quantity × ℕ) → (a ≡ Some x → b ≡ Some x) → (if t then Some y else a) ≡ Some x → (if t then Some y else b) ≡ Some x
begins_first true y a b x f h = h
begins_first false y a b x f h = f h

completes_first : (t u : Bool) (y : Quantity × ℕ) (a b c d : Passed) (x : Quantity × ℕ) → (a ≡ Some x → b ≡ Some x) → (c ≡ Some x → d ≡ Some x)
    → (if t then a else if u then c else Some y) ≡ Some x → (if t then b else if u then d else Some y) ≡ Some x
completes_first true u y a b c d x f g h = f h
completes_first false true y a b c d x f g h = g h
completes_first false false y a b c d x f g h = h

-- A limit that the first events pass stays the one that is passed first.
pub passed_first : (w : ClassWorld) (order : List Name) (d e : List Event) (x : Quantity × ℕ) → passed w order d ≡ Some x → passed w order (d ++ e) ≡ Some x
passed_first w order [] e x h = absurd cc
passed_first w order (Begins n ∷ d) e x h =
    begins_first (w.is_large n) (FileSize, MAX_FILE) (passed w order d) (passed w order (d ++ e)) x (passed_first w order d e x) h
passed_first w order (Completes n ∷ d) e x h =
    completes_first (is_among n order) (nat_lt (length order) MAX_LOADED) (Loaded, MAX_LOADED) (passed w order d) (passed w order (d ++ e))
    (passed w (order ++ n ∷ []) d) (passed w (order ++ n ∷ []) (d ++ e)) x (passed_first w order d e x) (passed_first w (order ++ n ∷ []) d e x) h

-- ---- what is left

-- a name whose loading has begun, and whose class file isn't too large
abbrev pub IsBegunIn : ClassWorld → List Name → Name → Type 0
IsBegunIn w begun n = (is_among n begun ≡ true) × (w.is_large n ≡ false)

when_small : (t : Bool) (x : Quantity × ℕ) (a : Passed) → t ≡ false → a ≡ None → (if t then Some x else a) ≡ None
when_small true x a e h = absurd cc
when_small false x a e h = h

when_known : (t : Bool) (a b : Passed) → t ≡ true → a ≡ None → (if t then a else b) ≡ None
when_known true a b e h = h
when_known false a b e h = absurd cc

within_limits : (w : ClassWorld) (order begun : List Name) (es : List Event) → AllByRecursion (λ n. is_among n order ≡ true) (completed_in es)
    → AllByRecursion (IsBegunIn w begun) (begun_in es) → passed w order es ≡ None
within_limits w order begun [] h k = refl
within_limits w order begun (Begins n ∷ es) h k = when_small (w.is_large n) (FileSize, MAX_FILE) (passed w order es) k.0.1 (within_limits w order begun es h k.1)
within_limits w order begun (Completes n ∷ es) h k = when_known (is_among n order) (passed w order es) _ h.0 (within_limits w order begun es h.1 k)

begun_alone : (w : ClassWorld) (begun ns : List Name) → AllByRecursion (IsBegunIn w begun) ns → AllByRecursion (λ n. is_among n begun ≡ true) ns
begun_alone w begun [] h = tt
begun_alone w begun (n ∷ ns) h = (h.0.0, begun_alone w begun ns h.1)

-- Where all that completes is loaded, and all that begins has begun, nothing is left behind.
pub leaves_within : (w : ClassWorld) (es : List Event) (a : Progress) → AllByRecursion (λ n. is_among n a.order ≡ true) (completed_in es)
    → AllByRecursion (λ n. (is_among n a.begun ≡ true) × (w.is_large n ≡ false)) (begun_in es) → Leaves w es a a
leaves_within w es a h k =
    let known = begun_alone w a.begun (begun_in es) k in
    record {
      order = sym (appended_known a.order (completed_in es) h);
      begun = sym (appended_known a.begun (begun_in es) known);
      reads = sym (ap (λ (ns : List Name). a.reads ++ filter_map w.path ns) (newly_known a.begun (begun_in es) known) ∙ append-nil a.reads);
      limits = within_limits w a.order a.begun es h k;
    }

pub leaves_nothing : (w : ClassWorld) (a : Progress) → Leaves w [] a a
leaves_nothing w a = leaves_within w [] a tt tt

read_both : (w : ClassWorld) (begun : List Name) (d e : List Event) (reads : List (List ℕ))
    → (reads ++ filter_map w.path (newly begun (begun_in d))) ++ filter_map w.path (newly (appended begun (begun_in d)) (begun_in e)) ≡ reads ++ filter_map w.path (newly begun (begun_in (d ++ e)))
read_both w begun d e reads =
    append_assoc reads (filter_map w.path (newly begun (begun_in d))) (filter_map w.path (newly (appended begun (begun_in d)) (begun_in e)))
    ∙ ap (λ (ps : List (List ℕ)). reads ++ ps) (sym (filter_map-append w.path (newly begun (begun_in d)) (newly (appended begun (begun_in d)) (begun_in e))))
    ∙ ap (λ (ns : List Name). reads ++ filter_map w.path ns) (sym (newly_append begun (begun_in d) (begun_in e)))
    ∙ ap (λ (ns : List Name). reads ++ filter_map w.path (newly begun ns)) (sym (begun_append d e))

-- What events leave, and then what others leave, is what all of them leave.
pub leaves_both : (w : ClassWorld) (d e : List Event) (a b c : Progress) → Leaves w d a b → Leaves w e b c → Leaves w (d ++ e) a c
leaves_both w d e a b c h k = record {
  order = k.order ∙ ap (λ (o : List Name). order_after o e) h.order ∙ sym (order_append a.order d e);
  begun = k.begun ∙ ap (λ (o : List Name). appended o (begun_in e)) h.begun ∙ sym (begun_after_append a.begun d e);
  reads =
      k.reads ∙ ap (λ (r : List (List ℕ)). r ++ filter_map w.path (newly b.begun (begun_in e))) h.reads
      ∙ ap (λ (o : List Name). (a.reads ++ filter_map w.path (newly a.begun (begun_in d))) ++ filter_map w.path (newly o (begun_in e))) h.begun
      ∙ read_both w a.begun d e a.reads;
  limits = passed_behind w a.order d e h.limits ∙ ap (λ (o : List Name). passed w o e) (sym h.order) ∙ k.limits;
}
