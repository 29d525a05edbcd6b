-- What stays so of the classes that are held.
use Rattle.std.proofs.Common.{◌≡◌, ℕ, ◌<◌, List, Bool, length, slice_set, sym, subst, ◌∙◌, arith}
use Rattle.std.specs.Global.{Vec}
use Rattle.std.specs.HashMap.{HashMap}
use Rattle.std.proofs.lemmas.List.{length-map, length-set}
use Rattle.class_record.specs.Facts.{pool_of}
use Rattle.loaded_classes.specs.declared.held.HeldClass.{HeldClass}
use Rattle.loaded_classes.specs.Table.{ClassTable, row_at}
use Rattle.loaded_classes.specs.Held.{AreKept, facts_in, facts_list, table_of}
use Rattle.loaded_classes.proofs.FactsKnown.{pool_lengths}
use Rattle.loaded_classes.proofs.Sets.{words_set, row_length}

module _ {S : Type 0} (held : List HeldClass) (linked : List Bool) (words : List (List ℕ)) (places : HashMap (Vec ℕ) ℕ S) (kept : AreKept held linked words places) where
  -- The cache words of a class are as many as the entries of its pool.
  pub rows_fit : (id : ℕ) → length (row_at words id) ≡ length (pool_of (facts_list held) id)
  rows_fit id = kept.fits id ∙ pool_lengths held id

  pub word_within : (t : ClassTable) (id k : ℕ) → table_of held linked words ≡ t → k < length (pool_of t.classes id) → k < length (row_at words id)
  word_within t id k is h =
      subst (λ (n : ℕ). k < n) (sym (rows_fit id)) (subst (λ (t : ClassTable). k < length (pool_of t.classes id)) (sym is) h)

  -- The class is loaded, so it has its place in each list.
  pub is_within : (t : ClassTable) (id : ℕ) → table_of held linked words ≡ t → id < length t.classes → id < length words
  is_within t id is h =
      let less : id < length (facts_list held) = subst (λ (t : ClassTable). id < length t.classes) (sym is) h in
      omega (arith, less, kept.word_count, length-map held facts_in)

  pub kept_by_word : (i k value : ℕ) → i < length words → AreKept held linked (words_set words i k value) places
  kept_by_word i k value h = record {
    built = kept.built;
    few = kept.few;
    linked_count = kept.linked_count;
    word_count = length-set words i (slice_set (row_at words i) k value) ∙ kept.word_count;
    right = kept.right;
    fits = λ id. row_length words i k value h id ∙ kept.fits id;
    known = kept.known;
  }
