-- The worked bytes of format 2 (RULES, Examples) as fields and back, by computing.
use Rattle.std.specs.Prelude.{◌≡◌, refl, [], ◌∷◌, pos, negsuc, Ok}
use Rattle.octets.specs.Octets.{little_number}
use Rattle.octets.specs.Search.{all_of}
use Rattle.wire.specs.Items.{digits, minimal}
use Rattle.recipe.specs.Recipe.{trim_of, zigzag_of, continued, varint, point, and_then, setpoints, in_range, no_leap, follows, rules, ruled, is_list, distance_of, count_of, format_of, sequence_of, trailer_of, core_distance_of, core_count_of, pad_of}
use Rattle.recipe.specs.Recipe.{wrap_room, core_room, list_fills, recipe_within, is_recipe}
use Rattle.recipe.specs.Examples.{spools, both}
use Rattle.recipe.specs.Inner.{short, short_point}
use Rattle.recipe.specs.Faults.{first_of, rises, trim_in, stays, setpoint_fault, bytes_fault, list_fault, lists_fault, is_known, fault_of}
use Rattle.recipe_fields.specs.Fields.{Fields, Holds, fields, fields_within, fields_of, little_bytes, point_bytes, list_bytes, wrap_back, core_back, last_half, second_half, bytes_of}
use Rattle.recipe_fields.specs.Places.{spans_of}

-- core (0, 0), wrap (0, -1), sequence 7, no note
abbrev pub both_fields : Fields
both_fields = record { format = 2; note = []; wrap = record { turn = 0; trim = negsuc 0 } ∷ []; core = record { turn = 0; trim = pos 0 } ∷ []; sequence = 7 }

-- "an empty core, and 00 00 is note"
abbrev pub empty_fields : Fields
empty_fields = record { format = 2; note = 0x00 ∷ 0x00 ∷ []; wrap = record { turn = 0; trim = negsuc 0 } ∷ []; core = []; sequence = 7 }

pub record Worked : Type 0 where
  pub read : fields_of both ≡ Holds both_fields
  pub written : bytes_of both_fields ≡ both
  -- format 2; the core from byte 0, the wrap from 2, the trailer from 4; a setpoint to each; sequence 7
  pub places : spans_of both ≡ Ok (record { format = 2; core = 0; wrap = 2; trailer = 4; cores = 1; wraps = 1; sequence = 7 })
  pub empty : (fields_of (spools 0x1A 0x00 0x00 0x00 0x1A 0x02) ≡ Holds empty_fields) × (spans_of (spools 0x1A 0x00 0x00 0x00 0x1A 0x02) ≡ Ok (record { format = 2; core = 2; wrap = 2; trailer = 4; cores = 0; wraps = 1; sequence = 7 }))

pub worked : Worked
unfolding digits minimal little_number all_of trim_of zigzag_of continued varint point and_then setpoints in_range no_leap follows rules ruled is_list distance_of count_of format_of sequence_of trailer_of core_distance_of core_count_of pad_of wrap_room core_room list_fills recipe_within is_recipe fields fields_within little_bytes point_bytes list_bytes wrap_back core_back last_half second_half bytes_of short short_point first_of rises trim_in stays setpoint_fault bytes_fault list_fault lists_fault is_known fault_of spans_of
worked = record {
  read = refl;
  written = refl;
  places = refl;
  empty = (refl, refl);
}
