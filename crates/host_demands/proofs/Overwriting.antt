-- What is written over what was written: stores at the same place, and the bytes of a connection and of a lookup that calls leave. Assumes nothing.
use Prim.Native.Nat.{ℕ, ◌+◌, ◌≤◌}
use mathlib.Core.Path.{◌≡◌, refl, sym, ap, ◌∙◌, subst}
use mathlib.Core.Bool.{true}
use mathlib.Core.List.{List, [], ◌∷◌, ◌++◌, append_assoc}
use native.Mathlib.Omega.{arith}
use lib.ListN.{length, take, drop, replicate, length-append}
use lib.Seq.{sets, sets-eq, length-sets, take_at, drop_at, drop-drop}
use Rattle.octets.proofs.Bools.{cond_ind}
use Rattle.octets.proofs.Stores.{take-sets, drop-sets}
use Rattle.stream.specs.declared.Framing.{Framing}
use Rattle.stream.specs.Stream.{in_form}
use Rattle.node.specs.declared.Answer.{Answer}
use Rattle.node.specs.declared.Answer.TheVariants.{Reply, Heard, More}
use Rattle.connections.specs.declared.Conn.{Conn}
use Rattle.flat.specs.Flat.{conn_size, framing_at, conn_in, peer_bytes, framing_bytes, bit, conn_bytes, with_framing}
use Rattle.flat.specs.Promises.{Whole}
use Rattle.flat.proofs.Back.{sizes, reads-back-lent}
use Rattle.host_state.specs.State.{changes_nothing, answer_framing, ending_framing}
use Rattle.std.specs.Prelude.{Ok, Err, Result, ⊤}
use Rattle.refusal.specs.declared.Refusal.{Refusal}

-- ---- stores
pub over : (l : List ℕ) (i : ℕ) (a b : List ℕ) → length a ≡ length b → i + length b ≤ length l → sets (sets l i a) i b ≡ sets l i b
over l i a b e h =
    sets-eq b (sets l i a) i (omega (arith, length-sets l i a))
    ∙ ap (λ (x : List ℕ). x ++ b ++ drop (i + length b) (sets l i a)) (take-sets i l i a (omega arith))
    ∙ ap (λ (x : List ℕ). take i l ++ b ++ x) (drop-sets (i + length b) l i a (omega arith))
    ∙ sym (sets-eq b l i h)

-- what stands there already
pub again : (p s r : List ℕ) (i : ℕ) → length p ≡ i → sets (p ++ (s ++ r)) i s ≡ p ++ (s ++ r)
again p s r i e =
    let x : List ℕ = p ++ (s ++ r) in
    let n : i + length s ≤ length x = omega (arith, length-append p (s ++ r), length-append s r) in
    sets-eq s x i n
    ∙ ap (λ (y : List ℕ). y ++ s ++ drop (i + length s) x) (take_at p (s ++ r) i e)
    ∙ ap (λ (y : List ℕ). p ++ s ++ y) (sym (drop-drop (length s) i x) ∙ ap (drop (length s)) (drop_at p (s ++ r) i e) ∙ drop_at s r (length s) refl)
    ∙ append_assoc p s r

-- ---- connections
-- the same but for their framing
abbrev pub Apart : List ℕ → List ℕ → Type 0
Apart b c = (f : Framing) → with_framing b f ≡ with_framing c f

-- with a framing as it is written
abbrev pub Plain : List ℕ → Type 0
Plain b = b ≡ with_framing b (conn_in b).framing

-- left alone, or given another framing in form
pub data Touched (b c : List ℕ) : Type 0 where
  left : c ≡ b → Touched b c
  framed : (f : Framing) → in_form f ≡ true → c ≡ with_framing b f → Touched b c

framing-over : (b : List ℕ) (f g : Framing) → conn_size ≤ length b → with_framing (with_framing b f) g ≡ with_framing b g
framing-over b f g h = over b framing_at (framing_bytes f) (framing_bytes g) (omega (arith, sizes.framing f, sizes.framing g)) (omega (arith, h, sizes.framing g))

pub touched-length : (b c : List ℕ) → conn_size ≤ length b → Touched b c → conn_size ≤ length c
touched-length b c h (left e) = subst (λ (x : List ℕ). conn_size ≤ length x) (sym e) h
touched-length b c h (framed f i e) =
    subst (λ (x : List ℕ). conn_size ≤ length x) (sym e) (omega (arith, h, length-sets b framing_at (framing_bytes f)))

pub touched-apart : (b c : List ℕ) → conn_size ≤ length b → Touched b c → Apart c b
touched-apart b c h (left e) g = ap (λ (x : List ℕ). with_framing x g) e
touched-apart b c h (framed f i e) g = ap (λ (x : List ℕ). with_framing x g) e ∙ framing-over b f g h

pub touched-plain : (b c : List ℕ) → conn_size ≤ length b → Touched b c → Plain b → Plain c
touched-plain b c h (left e) p = subst Plain (sym e) p
touched-plain b c h (framed f i e) p = subst Plain (sym e) wrote
  where
    says : (conn_in (with_framing b f)).framing ≡ f
    says = ap (λ (x : Conn). x.framing) (reads-back-lent.framing b f h i)

    wrote : Plain (with_framing b f)
    wrote = sym (ap (with_framing (with_framing b f)) says ∙ framing-over b f f h)

-- an open writes all of it
pub opened-plain : (b : List ℕ) (c : Conn) → conn_size ≤ length b → Whole c.peer → in_form c.framing ≡ true → Plain (sets b 0 (conn_bytes c))
unfolding conn_bytes
opened-plain b c h w i =
    let says : (conn_in (sets b 0 (conn_bytes c))).framing ≡ c.framing = ap (λ (x : Conn). x.framing) (reads-back-lent.conn b c h w i) in
    sym (ap (with_framing (sets b 0 (conn_bytes c))) says ∙ ap (λ (x : List ℕ). with_framing x c.framing) in_a_row ∙ again front fs after framing_at long ∙ sym in_a_row)
  where
    bits : List ℕ
    bits = bit c.server ∷ bit c.asking ∷ []

    fs : List ℕ
    fs = framing_bytes c.framing

    zeros : List ℕ
    zeros = replicate 14 0

    front : List ℕ
    front = peer_bytes c.peer ++ bits

    after : List ℕ
    after = zeros ++ drop (0 + length (conn_bytes c)) b

    long : length front ≡ framing_at
    long = length-append (peer_bytes c.peer) bits ∙ ap (λ (n : ℕ). n + 2) (sizes.peer c.peer w)

    in_a_row : sets b 0 (conn_bytes c) ≡ front ++ (fs ++ after)
    in_a_row =
        sets-eq (conn_bytes c) b 0 (omega (arith, h, sizes.conn c w))
        ∙ append_assoc (peer_bytes c.peer) (bits ++ (fs ++ zeros)) (drop (0 + length (conn_bytes c)) b)
        ∙ ap (λ (x : List ℕ). peer_bytes c.peer ++ (bits ++ x)) (append_assoc fs zeros (drop (0 + length (conn_bytes c)) b))
        ∙ sym (append_assoc (peer_bytes c.peer) bits (fs ++ after))

-- and so it makes no difference which framing stood there
pub open-apart : (b d : List ℕ) (c : Conn) → conn_size ≤ length b → conn_size ≤ length d → Whole c.peer → Apart b d → sets b 0 (conn_bytes c) ≡ sets d 0 (conn_bytes c)
open-apart b d c h g w a =
    let n : length (conn_bytes c) ≡ conn_size = sizes.conn c w in
    let k : ℕ = 0 + length (conn_bytes c) in
    let f : Framing = c.framing in
    let same : drop k b ≡ drop k d =
    sym (drop-sets k b framing_at (framing_bytes f) (omega (arith, n, sizes.framing f))) ∙ ap (drop k) (a f)
    ∙ drop-sets k d framing_at (framing_bytes f) (omega (arith, n, sizes.framing f)) in
    sets-eq (conn_bytes c) b 0 (omega arith) ∙ ap (λ (x : List ℕ). conn_bytes c ++ x) same ∙ sym (sets-eq (conn_bytes c) d 0 (omega arith))

-- what receive and end write
pub answer-touched : (b : List ℕ) (f : Framing) (x : Result Answer Refusal) → in_form f ≡ true → Touched b (answer_framing b f x)
answer-touched b f (Ok (Reply n)) i = framed f i refl
answer-touched b f (Ok (Heard n v)) i = framed f i refl
answer-touched b f (Err r) i = cond_ind (Touched b) (changes_nothing r) b (with_framing b f) (λ e. left refl) (λ e. framed f i refl)
answer-touched b f (Ok More) i = framed f i refl

pub ending-touched : (b : List ℕ) (f : Framing) (x : Result ⊤ Refusal) → in_form f ≡ true → Touched b (ending_framing b f x)
ending-touched b f (Ok tt) i = framed f i refl
ending-touched b f (Err r) i = cond_ind (Touched b) (changes_nothing r) b (with_framing b f) (λ e. left refl) (λ e. framed f i refl)
