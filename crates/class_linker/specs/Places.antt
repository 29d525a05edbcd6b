-- What the code keeps beside the readings: a map from names to their places.
use Rattle.std.specs.Prelude.{◌≡◌, ℕ, List, position, Option}
use Rattle.std.specs.Global.{Vec}
use Rattle.std.specs.HashMap.{HashMap, get_by}
use Rattle.std.specs.Str.{bytes_eq}
use Rattle.class_record.specs.Files.{Name}
use Rattle.class_linker.specs.declared.readings.Reading.{Reading}

-- the place that is known of a name
abbrev pub place_known : {S : Type 0} → HashMap (Vec ℕ) ℕ S → Name → Option ℕ
place_known places name = get_by (λ key. bytes_eq name key.items) places

-- the first place of a name
abbrev pub place_in : Name → List Reading → Option ℕ
place_in name rs = position (λ (r : Reading). bytes_eq name r.name) rs

pub record KnowsPlaces {S : Type 0} (places : HashMap (Vec ℕ) ℕ S) (rs : List Reading) : Type 0 where
  pub known : (name : Name) → place_known places name ≡ place_in name rs
