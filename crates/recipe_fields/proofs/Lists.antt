-- A list of setpoints, written and read: both ways. Assumes nothing.
use Prim.Native.Nat.{ℕ, zero, suc, ◌+◌, ◌-◌, ◌*◌, ◌^◌, ◌≤◌, ◌<◌}
use mathlib.Core.Path.{◌≡◌, refl, sym, ap, ◌∙◌}
use mathlib.Core.List.{List, [], ◌∷◌, ◌++◌, append_assoc}
use mathlib.Core.Bool.{true, false, ◌&&◌}
use native.Mathlib.Omega.{arith}
use lib.ListN.{length, take, drop, length-append, take-append-drop}
use lib.Seq.{drop_at, drop-drop}
use lib.Dec.{leb}
use lib.IntN.{ℤ, pos, negsuc}
use lib.Signed.{le_z}
use borrow.Author.Tests.{leb-true}
use Rattle.std.specs.Prelude.{Option, Some, None}
use Rattle.octets.specs.Octets.{Bytes}
use Rattle.octets.proofs.Bools.{and_l, and_r, not-both}
use Rattle.octets.proofs.Parts.{bytes_drop}
use Rattle.wire.specs.Items.{minimal}
use Rattle.recipe.specs.Limits.{turn_max, trim_max}
use Rattle.recipe.specs.Recipe.{Setpoints, These, NoList, trim_of, zigzag_of, varint, on_varint, point, on_point, and_then, setpoints, in_range, follows, rules, ruled, is_list}
use Rattle.recipe.specs.declared.Setpoint.{Setpoint}
use Rattle.recipe.proofs.Varints.{a_varint}
use Rattle.recipe.proofs.Points.{a_point, a_setpoint}
use Rattle.recipe.proofs.Zigzag.{zigzag-trim, trim-zigzag}
use Rattle.recipe_fields.specs.Fields.{listed, point_bytes, list_bytes}
use Rattle.recipe_fields.proofs.Varints.{varint-minimal, minimal-varint}

-- ---- the limits, in zigzag form
zigzag-most : (t : ℤ) → (le_z (negsuc (trim_max - 1)) t && le_z t (pos trim_max)) ≡ true → zigzag_of t ≤ trim_max * 2
unfolding zigzag_of
zigzag-most (pos n) h = omega (arith, leb-true n trim_max h)
zigzag-most (negsuc n) h = omega (arith, leb-true n (trim_max - 1) (and_l (leb n (trim_max - 1)) _ h))

turn-most : (turn : ℕ) (t : ℤ) → in_range turn t ≡ true → turn ≤ turn_max
unfolding in_range
turn-most turn t h = leb-true turn turn_max (and_l (leb turn turn_max) _ h)

trim-most : (turn : ℕ) (t : ℤ) → in_range turn t ≡ true → zigzag_of t ≤ trim_max * 2
unfolding in_range
trim-most turn t h = zigzag-most t (and_r (leb turn turn_max) _ h)

rules-head : (p : Option Setpoint) (q : Setpoint) (qs : List Setpoint) → rules p (q ∷ qs) ≡ true → in_range q.turn q.trim ≡ true
unfolding rules
rules-head p q qs h = and_l (in_range q.turn q.trim) _ h

pub rules-tail : (p : Option Setpoint) (q : Setpoint) (qs : List Setpoint) → rules p (q ∷ qs) ≡ true → rules (Some q) qs ≡ true
unfolding rules
rules-tail p q qs h = and_r (follows p q.turn q.trim) _ (and_r (in_range q.turn q.trim) _ h)

-- ---- read after writing
point-written : (q : Setpoint) (post : List ℕ) → q.turn < 2 ^ 64 → zigzag_of q.trim < 2 ^ 64 → point (point_bytes q ++ post) ≡ a_point q.turn q.trim (length (point_bytes q))
unfolding point point_bytes
point-written q post h g =
    let a : List ℕ = minimal q.turn in
    let b : List ℕ = minimal (zigzag_of q.trim) in
    let e : length a + length b ≡ length (a ++ b) = sym (length-append a b) in
    rw (append_assoc a b post, varint-minimal q.turn (b ++ post) h, drop_at a (b ++ post) (length a) refl, varint-minimal (zigzag_of q.trim) post g, trim-zigzag q.trim, e)

pub list_written : (ps : List Setpoint) (p : Option Setpoint) → rules p ps ≡ true → setpoints (length ps) (list_bytes ps) ≡ These ps
unfolding setpoints list_bytes and_then
list_written [] p h = refl
list_written (q ∷ qs) p h =
    let r = rules-head p q qs h in
    let e = point-written q (list_bytes qs) (omega (arith, turn-most q.turn q.trim r)) (omega (arith, trim-most q.turn q.trim r)) in
    let d : drop (length (point_bytes q)) (point_bytes q ++ list_bytes qs) ≡ list_bytes qs = drop_at (point_bytes q) (list_bytes qs) (length (point_bytes q)) refl in
    rw (e, d, list_written qs (Some q) (rules-tail p q qs h))

pub list-good : (ps : List Setpoint) → rules None ps ≡ true → is_list (length ps) (list_bytes ps) ≡ true
unfolding is_list ruled
list-good ps h = rw (list_written ps None h) h

-- ---- written after reading
pub record Listing (p : Option Setpoint) (n : ℕ) (s : List ℕ) (x : Setpoints) : Type 0 where
  pub back : list_bytes (listed x) ≡ s
  pub count : length (listed x) ≡ n
  pub kept : rules p (listed x) ≡ true

ruled-none : (p : Option Setpoint) (x : Setpoints) → x ≡ NoList → ruled p x ≡ true → ⊥
unfolding ruled
ruled-none p x e h = not-both false (rw e at h) refl

module _ (p : Option Setpoint) (n : ℕ) (s : List ℕ) (bs : Bytes s) (ih : (p : Option Setpoint) (s : List ℕ) → Bytes s → ruled p (setpoints n s) ≡ true → Listing p n s (setpoints n s)) where
  on-rest : (t z a b : ℕ) (x : Setpoints) → varint s ≡ a_varint t a → varint (drop a s) ≡ a_varint z b → ruled p (and_then t (trim_of z) x) ≡ true
      → ((p : Option Setpoint) → ruled p x ≡ true → Listing p n (drop (a + b) s) x) → Listing p (suc n) s (and_then t (trim_of z) x)
  unfolding ruled and_then list_bytes point_bytes rules
  on-rest t z a b NoList et ez h g = absurd (not-both false h refl)
  on-rest t z a b (These qs) et ez h g =
      let q : Setpoint = record { turn = t; trim = trim_of z } in
      let r = rules-head p q qs h in
      let l = g (a_setpoint t (trim_of z)) (rules-tail p q qs h) in
      let zz : zigzag_of (trim_of z) ≡ z = zigzag-trim z in
      let m₁ : minimal t ≡ take a s = minimal-varint s bs t a et (omega (arith, turn-most t (trim_of z) r)) in
      let m₂ : minimal (zigzag_of (trim_of z)) ≡ take b (drop a s) = ap minimal zz ∙ minimal-varint (drop a s) (bytes_drop a s bs) z b ez (omega (arith, zz, trim-most t (trim_of z) r)) in
      let d : drop b (drop a s) ≡ drop (a + b) s = drop-drop b a s in
      record {
        back =
            ap (λ (y : List ℕ). (minimal t ++ minimal (zigzag_of (trim_of z))) ++ y) l.back
            ∙ append_assoc (minimal t) (minimal (zigzag_of (trim_of z))) (drop (a + b) s)
            ∙ ap (λ (y : List ℕ). y ++ (minimal (zigzag_of (trim_of z)) ++ drop (a + b) s)) m₁
            ∙ ap (λ (y : List ℕ). take a s ++ (y ++ drop (a + b) s)) m₂
            ∙ ap (λ (y : List ℕ). take a s ++ (take b (drop a s) ++ y)) (sym d)
            ∙ ap (λ (y : List ℕ). take a s ++ y) (take-append-drop b (drop a s))
            ∙ take-append-drop a s;
        count = ap suc l.count;
        kept = h;
      }

  on-trim : (t a : ℕ) (r : Option (ℕ × ℕ)) → varint s ≡ a_varint t a → varint (drop a s) ≡ r
      → ruled p (on_point (on_varint r (λ z m. a_point t (trim_of z) (a + m)) None) (λ turn trim k. and_then turn trim (setpoints n (drop k s))) NoList) ≡ true
      → Listing p (suc n) s (on_point (on_varint r (λ z m. a_point t (trim_of z) (a + m)) None) (λ turn trim k. and_then turn trim (setpoints n (drop k s))) NoList)
  on-trim t a None et er h = absurd (ruled-none p NoList refl h)
  on-trim t a (Some (z, b)) et er h = on-rest t z a b (setpoints n (drop (a + b) s)) et er h (λ p'. ih p' (drop (a + b) s) (bytes_drop (a + b) s bs))

  on-turn : (r : Option (ℕ × ℕ)) → varint s ≡ r
      → ruled p (on_point (on_varint r (λ turn n. on_varint (varint (drop n s)) (λ z m. a_point turn (trim_of z) (n + m)) None) None) (λ turn trim k. and_then turn trim (setpoints n (drop k s))) NoList) ≡ true
      → Listing p (suc n) s (on_point (on_varint r (λ turn n. on_varint (varint (drop n s)) (λ z m. a_point turn (trim_of z) (n + m)) None) None) (λ turn trim k. and_then turn trim (setpoints n (drop k s))) NoList)
  on-turn None e h = absurd (ruled-none p NoList refl h)
  on-turn (Some (t, a)) e h = on-trim t a (varint (drop a s)) e refl h

list-read-from : (n : ℕ) (p : Option Setpoint) (s : List ℕ) → Bytes s → ruled p (setpoints n s) ≡ true → Listing p n s (setpoints n s)
unfolding setpoints list_bytes ruled rules point
list-read-from zero p [] bs h = record { back = refl; count = refl; kept = refl }
list-read-from zero p (b ∷ s) bs h = absurd (not-both false h refl)
list-read-from (suc n) p s bs h = on-turn p n s bs (list-read-from n) (varint s) refl h

pub list_read : (n : ℕ) (s : List ℕ) → Bytes s → is_list n s ≡ true → Listing None n s (setpoints n s)
unfolding is_list
list_read n s bs h = list-read-from n None s bs h
