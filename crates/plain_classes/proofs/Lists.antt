-- What the reading of classes says of their spelling.
use Rattle.std.proofs.Common.{◌≡◌, ℕ, List, [], ◌++◌, length, Some, refl, sym, ap, ◌∙◌}
use Rattle.std.specs.List.{AllByRecursion}
use Rattle.std.proofs.lemmas.List.{append-nil}
use Rattle.jsa_base.specs.Reading.{IsBytes, pair_at, times, all_read}
use Rattle.jsa_base.specs.Spelling.{FitsLongText}
use Rattle.jsa_base.specs.LowFirst.{low_text, low_text_at}
use Rattle.jsa_base.specs.Codec.{Codec}
use Rattle.jsa_base.proofs.Codecs.{all_read_is, made_codec, pair_codec, times_codec, low_text_codec}
use Rattle.plain_classes.specs.declared.class.PlainClass.{PlainClass}
use Rattle.plain_classes.specs.Records.{class_text, classes_text, FitsRecord, class_at, classes_of, SpellsClasses}

class_codec : Codec class_at class_text FitsRecord
unfolding class_at
class_codec = made_codec (pair_at low_text_at low_text_at) (λ p. low_text p.0 ++ low_text p.1) (λ p. FitsLongText p.0 × FitsLongText p.1)
    (λ p. record { name = p.0; bytes = p.1 }) (λ c. (c.name, c.bytes)) class_text FitsRecord
    (pair_codec low_text_at low_text_at low_text low_text FitsLongText FitsLongText low_text_codec low_text_codec)
    (λ c fits. refl) (λ p. refl) (λ c. refl) (λ p fits. fits) (λ c fits. fits)

list_codec : (count : ℕ) → Codec (times class_at count) classes_text (λ (cs : List PlainClass). (length cs ≡ count) × AllByRecursion FitsRecord cs)
list_codec count = times_codec class_at class_text FitsRecord count class_codec

pub takes : (bytes : List ℕ) (count : ℕ) (cs : List PlainClass) → IsBytes bytes → classes_of count bytes ≡ Some cs → SpellsClasses bytes count cs
takes bytes count cs fits h =
    let t = (list_codec count).takes bytes cs [] fits (all_read_is (times class_at count bytes) cs h) in
    record { written = t.parts ∙ append-nil (classes_text cs); many = t.fits.0; fits = t.fits.1 }

pub again : (bytes : List ℕ) (count : ℕ) (cs : List PlainClass) → SpellsClasses bytes count cs → classes_of count bytes ≡ Some cs
again bytes count cs s =
    ap (λ (b : List ℕ). all_read (times class_at count b)) (s.written ∙ sym (append-nil (classes_text cs)))
    ∙ ap all_read ((list_codec count).again cs [] (s.many, s.fits))
