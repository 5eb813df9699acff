-- What the parts of the code give. No reader of `is_recipe` needs these.
use Rattle.std.specs.Prelude.{ℕ, ◌+◌, cond, List, drop, ltb, Option, Some, None}
use Rattle.recipe.specs.Recipe.{trim_of, varint, on_varint}
use Rattle.recipe.specs.declared.Point.{Point}

-- a varint of at most three bytes
unfoldable pub short : Option (ℕ × ℕ) → Option (ℕ × ℕ)
short (Some (v, n)) = cond (ltb v 2097152) (Some (v, n)) None
short None = None

-- the setpoint that opens a byte string, of two such varints: no setpoint within the limits has longer ones
unfoldable pub short_point : List ℕ → Option Point
short_point s =
    on_varint (short (varint s)) (λ turn n. on_varint (short (varint (drop n s))) (λ z m. Some (record { turn = turn; trim = trim_of z; size = n + m })) None) None
