-- Laws of address lists, and the loop that keeps the usable ones. Assumes nothing.
use Prim.Native.Nat.{ℕ, zero, suc, ◌+◌, ◌*◌, ◌-◌, ◌<◌, ◌≤◌}
use mathlib.Core.Path.{◌≡◌, refl, sym, ap, ap₂, ◌∙◌}
use mathlib.Core.Logic.{⊎_elim}
use mathlib.Core.Bool.{Bool, true, false}
use mathlib.Core.List.{List, [], ◌∷◌, ◌++◌, append_assoc, append-nil}
use native.Mathlib.Nat.{not-suc-le-zero}
use native.Mathlib.Omega.{arith}
use lib.Dec.{leb}
use lib.ListN.{length, get_or, take, drop, set, length-take, length-drop, length-append, replicate}
use lib.Seq.{sets, get_or-drop, drop-drop, take_all, take_at}
use borrow.Author.Tests.{le-leb, lt-leb, leb-true}
use Rattle.octets.specs.Octets.{part}
use Rattle.octets.specs.Search.{every}
use Rattle.octets.proofs.Bools.{and_l, and_r, and-off, not-both, either, cond_yes, cond_no}
use Rattle.octets.proofs.Searching.{every-nil, every-cons, every-head, every-tail}
use Rattle.octets.proofs.Parts.{part-is, part-size}
use Rattle.peer.specs.Addresses.{two, entries_from, entries, address_size, address_at, addresses_of, usable_size, usable, kept_of, end_of, rooms, sizes}
use Rattle.peer.proofs.Rooms.{length-rooms, length-sizes, rooms-none, sizes-none, rooms-more, sizes-more, Short, short_none}

-- ---- one entry
abbrev size_of : List ℕ → ℕ
size_of s = two s 0

abbrev whole : List ℕ → Bool
whole s = leb (address_size s) (length s)

pub size-read : (s : List ℕ) (at : ℕ) → get_or s at 0 + get_or s (at + 1) 0 * 256 ≡ two (drop at s) 0
unfolding two
size-read s at =
    let z : at + 0 ≡ at = omega arith in
    sym (ap₂ (λ (a b : ℕ). a + b * 256) (get_or-drop at s 0 0 ∙ ap (λ (k : ℕ). get_or s k 0) z) (get_or-drop at s 1 0))

module _ (s : List ℕ) (at : ℕ) (h : at ≤ length s) where
  pub end_short : length s - at < 2 → 0 ≡ end_of s at
  unfolding end_of address_size
  end_short l = sym (cond_no (leb (2 + size_of (drop at s)) (length (drop at s))) _ 0 (lt-leb (2 + size_of (drop at s)) (length (drop at s)) (omega (arith, length-drop at s))))

  pub end-cut : (n : ℕ) → n ≡ size_of (drop at s) → 2 ≤ length s - at → length s - at - 2 < n → 0 ≡ end_of s at
  unfolding end_of address_size
  end-cut n e g l = sym (cond_no (leb (2 + size_of (drop at s)) (length (drop at s))) _ 0 (lt-leb (2 + size_of (drop at s)) (length (drop at s)) (omega (arith, length-drop at s))))

  pub end-there : (n : ℕ) → n ≡ size_of (drop at s) → 2 ≤ length s - at → n ≤ length s - at - 2 → at + 2 + n ≡ end_of s at
  unfolding end_of address_size
  end-there n e g l =
      ends
      ∙ sym (cond_yes (leb (2 + size_of (drop at s)) (length (drop at s))) _ 0 (le-leb (2 + size_of (drop at s)) (length (drop at s)) (omega (arith, length-drop at s))))
    where
      ends : at + 2 + n ≡ at + (2 + size_of (drop at s))
      ends = omega (arith, e)

  pub record Entry (e : ℕ) : Type 0 where
    pub stands : whole (drop at s) ≡ true
    pub ends : e ≡ at + 2 + size_of (drop at s)
    pub inside : e ≤ length s

  pub entry : (e : ℕ) → e ≡ end_of s at → (e ≡ 0 → ⊥) → Entry e
  unfolding end_of address_size
  entry e q z = ⊎_elim yes (λ w. absurd (z (q ∙ cond_no (whole (drop at s)) _ 0 w))) (either (whole (drop at s)))
    where
      fits : whole (drop at s) ≡ true → 2 + size_of (drop at s) ≤ length (drop at s)
      fits w = leb-true (2 + size_of (drop at s)) (length (drop at s)) w

      yes : whole (drop at s) ≡ true → Entry e
      yes w =
          let x : e ≡ at + (2 + size_of (drop at s)) = q ∙ cond_yes (whole (drop at s)) (at + (2 + size_of (drop at s))) 0 w in
          let r : e ≡ at + 2 + size_of (drop at s) = omega (arith, x) in
          record { stands = w; ends = r; inside = omega (arith, fits w, length-drop at s) }

  pub no-entry : (e : ℕ) → e ≡ end_of s at → e ≡ 0 → whole (drop at s) ≡ false
  unfolding end_of address_size
  no-entry e q z = ⊎_elim (λ w. absurd (bad (q ∙ cond_yes (whole (drop at s)) (at + (2 + size_of (drop at s))) 0 w))) (λ w. w) (either (whole (drop at s)))
    where
      bad : e ≡ at + (2 + size_of (drop at s)) → ⊥
      bad r = omega arith

-- ---- usable
pub size_none : (n : ℕ) → n ≡ 0 → false ≡ usable_size n
unfolding usable_size
size_none n e = sym (and-off (leb 1 n) _ (lt-leb 1 n (omega arith)))

pub size-some : (n : ℕ) → (n ≡ 0 → ⊥) → leb n 128 ≡ usable_size n
unfolding usable_size
size-some n e = let h : leb 1 n ≡ true = le-leb 1 n (omega arith) in rw h

pub size-most : (n : ℕ) → usable_size n ≡ true → n ≤ 128
unfolding usable_size
size-most n h = leb-true n 128 (and_r (leb 1 n) _ h)

pub size-least : (n : ℕ) → usable_size n ≡ true → 1 ≤ n
unfolding usable_size
size-least n h = leb-true 1 n (and_l (leb 1 n) _ h)

pub usable-none : usable [] ≡ []
unfolding usable
usable-none = refl

pub usable-yes : (a : List ℕ) (l : List (List ℕ)) → usable_size (length a) ≡ true → usable (a ∷ l) ≡ a ∷ usable l
unfolding usable
usable-yes a l h = rw h

pub usable-no : (a : List ℕ) (l : List (List ℕ)) → usable_size (length a) ≡ false → usable (a ∷ l) ≡ usable l
unfolding usable
usable-no a l h = rw h

-- ---- the addresses from an entry on
abbrev addresses_from : ℕ → List ℕ → List (List ℕ)
addresses_from fuel s = entries_from address_size address_at fuel s

whole-nil : whole [] ≡ false
unfolding address_size two
whole-nil = refl

nil-of : (s : List ℕ) → length s ≤ 0 → s ≡ []
nil-of [] h = refl
nil-of (b ∷ s) h = absurd (not-suc-le-zero h)

from-stop : (fuel : ℕ) (s : List ℕ) → whole s ≡ false → addresses_from fuel s ≡ []
unfolding entries_from
from-stop zero s w = refl
from-stop (suc fuel) s w = cond_no (whole s) _ [] w

from_on : (fuel : ℕ) (s : List ℕ) → length s ≤ fuel → whole s ≡ true
    → addresses_from fuel s ≡ part s 2 (2 + size_of s) ∷ addresses_from (fuel - 1) (drop (2 + size_of s) s)
unfolding entries_from address_size address_at
from_on zero s h w = absurd (not-both (whole s) w (ap whole (nil-of s h) ∙ whole-nil))
from_on (suc fuel) s h w = let e : suc fuel - 1 ≡ fuel = omega arith in rw e (cond_yes (whole s) _ [] w)

-- ---- the loop: what is kept so far, and what is still to come
pub record Scan (list addrs lens : List ℕ) (count at : ℕ) : Type 0 where
  pub fuel : ℕ
  pub done : List (List ℕ)
  pub within : at ≤ length list
  pub enough : length list ≤ at + fuel
  pub found : usable (addresses_of list) ≡ done ++ usable (addresses_from fuel (drop at list))
  pub many : count ≡ length done
  pub few : count ≤ 4
  pub kept : addrs ≡ rooms 4 done
  pub long : lens ≡ sizes 4 done

pub start : (list addrs lens : List ℕ) → addrs ≡ replicate 512 0 → lens ≡ replicate 4 0 → Scan list addrs lens 0 0
unfolding addresses_of entries
start list addrs lens e g = record {
  fuel = length list;
  done = [];
  within = omega arith;
  enough = omega arith;
  found = refl;
  many = refl;
  few = omega arith;
  kept = e ∙ sym rooms-none;
  long = g ∙ sym sizes-none;
}

module _ (list addrs lens : List ℕ) (count at : ℕ) (s : Scan list addrs lens count at) where
  -- it is over: no whole entry is left, or four are kept
  over : usable (addresses_from s.fuel (drop at list)) ≡ [] → kept_of list ≡ s.done
  unfolding kept_of
  over e =
      ap (take 4) (s.found ∙ ap (λ (l : List (List ℕ)). s.done ++ l) e ∙ append-nil s.done) ∙ take_all 4 s.done (omega (arith, s.many, s.few))

  full : 4 ≤ count → kept_of list ≡ s.done
  unfolding kept_of
  full h = ap (take 4) s.found ∙ take_at s.done (usable (addresses_from s.fuel (drop at list))) 4 (omega (arith, s.many, s.few))

  abbrev Kept : Type 0
  Kept = (count ≡ length (kept_of list)) × (addrs ≡ rooms 4 (kept_of list)) × (lens ≡ sizes 4 (kept_of list))

  pub addrs-same : (before : List ℕ) → before ≡ replicate 512 0 → length addrs ≡ length before
  addrs-same before e = ap length s.kept ∙ length-rooms 4 s.done ∙ sym (ap length e)

  pub lens_same : (before : List ℕ) → before ≡ replicate 4 0 → length lens ≡ length before
  lens_same before e = ap length s.long ∙ length-sizes 4 s.done ∙ sym (ap length e)

  pub lens-four : length lens ≡ 4
  lens-four = ap length s.long ∙ length-sizes 4 s.done

  finish : kept_of list ≡ s.done → Kept
  finish e = (s.many ∙ ap length (sym e), s.kept ∙ ap (rooms 4) (sym e), s.long ∙ ap (sizes 4) (sym e))

  pub finish-full : 4 ≤ count → Kept
  finish-full h = finish (full h)

  pub finish-short : (e : ℕ) → e ≡ end_of list at → e ≡ 0 → Kept
  finish-short e q z = finish (over (ap usable (from-stop s.fuel (drop at list) (no-entry list at s.within e q z)) ∙ usable-none))

  module _ (e : ℕ) (q : e ≡ end_of list at) (z : e ≡ 0 → ⊥) where
    pub here : Entry list at s.within e
    here = entry list at s.within e q z

    -- the entry's bytes as the code cuts them out
    cut : part (drop at list) 2 (2 + size_of (drop at list)) ≡ part list (at + 2) e
    cut =
        let n : ℕ = size_of (drop at list) in
        part-is (drop at list) 2 (size_of (drop at list)) ∙ ap (take (size_of (drop at list))) (drop-drop 2 at list)
        ∙ sym (part-is list (at + 2) (size_of (drop at list))) ∙ ap (part list (at + 2)) (sym here.ends)

    pub cut-size : length (part list (at + 2) e) ≡ e - (at + 2)
    cut-size =
        let x : at + 2 + size_of (drop at list) ≡ e = sym here.ends in
        let y : size_of (drop at list) ≡ e - (at + 2) = omega (arith, here.ends) in
        sym (ap (λ (k : ℕ). length (part list (at + 2) k)) x) ∙ part-size list (at + 2) (size_of (drop at list)) (omega (arith, here.ends, here.inside)) ∙ y

    ahead : addresses_from s.fuel (drop at list) ≡ part list (at + 2) e ∷ addresses_from (s.fuel - 1) (drop e list)
    ahead =
        let k : at + (2 + size_of (drop at list)) ≡ e = omega (arith, here.ends) in
        from_on s.fuel (drop at list) (omega (arith, length-drop at list, s.enough)) here.stands
        ∙ ap₂ (λ (a : List ℕ) (l : List ℕ). a ∷ addresses_from (s.fuel - 1) l) cut (drop-drop (2 + size_of (drop at list)) at list ∙ ap (λ (m : ℕ). drop m list) k)

    enough' : length list ≤ e + (s.fuel - 1)
    enough' = omega (arith, s.enough, here.ends)

    pub skip : (n : ℕ) → n ≡ e - (at + 2) → usable_size n ≡ false → Scan list addrs lens count e
    skip n en u = record {
      fuel = s.fuel - 1;
      done = s.done;
      within = here.inside;
      enough = enough';
      found = s.found ∙ ap (λ (l : List (List ℕ)). s.done ++ l) (ap usable ahead ∙ usable-no (part list (at + 2) e) _ (ap usable_size (cut-size ∙ sym en) ∙ u));
      many = s.many;
      few = s.few;
      kept = s.kept;
      long = s.long;
    }

    pub take-one : (n : ℕ) (addrs' : List ℕ) → n ≡ e - (at + 2) → usable_size n ≡ true → count < 4 → addrs' ≡ sets addrs (count * 128) (part list (at + 2) e)
        → Scan list addrs' (set lens count n) (count + 1) e
    take-one n addrs' en u l g =
        let a : List ℕ = part list (at + 2) e in
        let la : length (part list (at + 2) e) ≡ n = cut-size ∙ sym en in
        record {
          fuel = s.fuel - 1;
          done = s.done ++ (part list (at + 2) e ∷ []);
          within = here.inside;
          enough = enough';
          found =
              s.found ∙ ap (λ (l : List (List ℕ)). s.done ++ l) (ap usable ahead ∙ usable-yes (part list (at + 2) e) _ (ap usable_size la ∙ u))
              ∙ sym (append_assoc s.done (part list (at + 2) e ∷ []) (usable (addresses_from (s.fuel - 1) (drop e list))));
          many = sym (length-append s.done (part list (at + 2) e ∷ []) ∙ ap (λ (k : ℕ). k + 1) (sym s.many));
          few = omega arith;
          kept =
              g ∙ ap₂ (λ (x : List ℕ) (k : ℕ). sets x (k * 128) (part list (at + 2) e)) s.kept s.many
              ∙ sym (rooms-more 4 s.done (part list (at + 2) e) (omega (arith, s.many)) (omega (arith, size-most n u)));
          long =
              ap₂ (λ (x : List ℕ) (k : ℕ). set x k n) s.long s.many ∙ ap (set (sizes 4 s.done) (length s.done)) (sym la)
              ∙ sym (sizes-more 4 s.done (part list (at + 2) e) (omega (arith, s.many)));
        }

-- ---- what is kept is usable, and there are at most four
abbrev pub is_usable : List ℕ → Bool
is_usable a = usable_size (length a)

pub usable-all : (l : List (List ℕ)) → every is_usable (usable l) ≡ true
usable-all [] = ap (every is_usable) usable-none ∙ every-nil is_usable
usable-all (a ∷ l) =
    ⊎_elim (λ h. ap (every is_usable) (usable-yes a l h) ∙ every-cons is_usable a (usable l) h (usable-all l)) (λ h. ap (every is_usable) (usable-no a l h) ∙ usable-all l)
    (either (usable_size (length a)))

every_take : (n : ℕ) (l : List (List ℕ)) → every is_usable l ≡ true → every is_usable (take n l) ≡ true
every_take zero l h = every-nil is_usable
every_take (suc n) [] h = every-nil is_usable
every_take (suc n) (a ∷ l) h = every-cons is_usable a (take n l) (every-head is_usable a l h) (every_take n l (every-tail is_usable a l h))

pub kept-usable : (s : List ℕ) → every is_usable (kept_of s) ≡ true
unfolding kept_of
kept-usable s = every_take 4 (usable (addresses_of s)) (usable-all (addresses_of s))

pub kept-few : (s : List ℕ) → length (kept_of s) ≤ 4
unfolding kept_of
kept-few s = omega (arith, length-take 4 (usable (addresses_of s)))

pub every-at : (l : List (List ℕ)) (k : ℕ) → every is_usable l ≡ true → k < length l → usable_size (length (get_or l k [])) ≡ true
every-at [] k h g = absurd (not-suc-le-zero g)
every-at (a ∷ l) zero h g = every-head is_usable a l h
every-at (a ∷ l) (suc k) h g = every-at l k (every-tail is_usable a l h) (omega arith)

pub usable-short : (l : List (List ℕ)) → every is_usable l ≡ true → Short l
usable-short [] h k = short_none k
usable-short (a ∷ l) h zero = size-most (length a) (every-head is_usable a l h)
usable-short (a ∷ l) h (suc k) = usable-short l (every-tail is_usable a l h) k
