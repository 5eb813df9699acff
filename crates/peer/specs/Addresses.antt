-- Lists of addresses as they are handed in, and those that are kept: RULES, Places and contacts.
-- A list is one byte string. Each address is a length of two bytes, the lowest first, and then its bytes.
use Rattle.std.specs.Prelude.{ℕ, zero, suc, ◌+◌, ◌*◌, ◌-◌, Bool, cond, ◌&&◌, List, [], ◌∷◌, ◌++◌, length, get_or, take, drop, replicate, leb}
use Rattle.octets.specs.Octets.{part}
use Rattle.limits.specs.Limits.{most_address, most_addresses}

-- two bytes as a number, the lower first
unfoldable pub two : List ℕ → ℕ → ℕ
two s at = get_or s at 0 + get_or s (at + 1) 0 * 256

-- a string read entry after entry, each of its own size; one that runs past the end ends the list. k entries at most
unfoldable pub entries_from : {A : Type 0} → (List ℕ → ℕ) → (List ℕ → A) → ℕ → List ℕ → List A
entries_from size make zero s = []
entries_from size make (suc k) s = cond (leb (size s) (length s)) (make s ∷ entries_from size make k (drop (size s) s)) []

-- an entry has at least a byte, so there are no more than the string has
unfoldable pub entries : {A : Type 0} → (List ℕ → ℕ) → (List ℕ → A) → List ℕ → List A
entries size make s = entries_from size make (length s) s

-- an address in a list: a two-byte length and its bytes
unfoldable pub address_size : List ℕ → ℕ
address_size s = 2 + two s 0

unfoldable pub address_at : List ℕ → List ℕ
address_at s = part s 2 (address_size s)

unfoldable pub addresses_of : List ℕ → List (List ℕ)
addresses_of s = entries address_size address_at s

-- "usable (1 to 128 bytes; the first four usable)"
unfoldable pub usable_size : ℕ → Bool
usable_size n = leb 1 n && leb n most_address

unfoldable pub usable : List (List ℕ) → List (List ℕ)
usable [] = []
usable (a ∷ l) = cond (usable_size (length a)) (a ∷ []) [] ++ usable l

unfoldable pub kept_of : List ℕ → List (List ℕ)
kept_of s = take most_addresses (usable (addresses_of s))

-- where the entry at a place of a list ends; 0 where it isn't whole
unfoldable pub end_of : List ℕ → ℕ → ℕ
end_of s at = cond (leb (address_size (drop at s)) (length (drop at s))) (at + address_size (drop at s)) 0

-- ---- how they are held
-- at most n bytes of s, and zeros up to n
unfoldable pub padded : ℕ → List ℕ → List ℕ
padded n s = take n s ++ replicate (n - length s) 0

-- n rooms of 128 bytes, an address in each as long as there are any; and the n lengths, 0 where there is none
unfoldable pub rooms : ℕ → List (List ℕ) → List ℕ
rooms zero l = []
rooms (suc n) [] = padded most_address [] ++ rooms n []
rooms (suc n) (a ∷ l) = padded most_address a ++ rooms n l

unfoldable pub sizes : ℕ → List (List ℕ) → List ℕ
sizes zero l = []
sizes (suc n) [] = 0 ∷ sizes n []
sizes (suc n) (a ∷ l) = length a ∷ sizes n l
