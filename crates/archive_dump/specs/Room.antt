-- What is left of a room of so many bytes.
use Rattle.std.specs.Prelude.{ℕ, ◌-◌, nat_lt, if◌then◌else◌, Option, Some, None}

-- behind so many bytes, where they fit
unfoldable pub left_of : ℕ → ℕ → Option ℕ
left_of room size = if nat_lt room size then None else Some (room - size)
