-- What a box writes stands in the buffer with its prefix; and what one box replies, another hears as the message that was meant. Assumes nothing.
use Prim.Native.Nat.{ℕ, ◌+◌, ◌≤◌}
use mathlib.Core.Path.{◌≡◌, refl, sym, ap, ◌∙◌}
use mathlib.Core.Bool.{Bool, true, false, cond}
use mathlib.Core.List.{List, [], ◌∷◌, ◌++◌}
use native.Mathlib.Omega.{arith}
use lib.ListN.{length, take, drop, length-append}
use lib.Seq.{sets}
use lib.Dec.{eqb, ltb}
use borrow.Author.Tests.{eq-eqb, ltb-false}
use Rattle.octets.proofs.Bools.{cond_yes}
use Rattle.octets.proofs.Stores.{drop-sets}
use Rattle.limits.specs.Limits.{most_body, least_reply}
use Rattle.refusal.specs.declared.Refusal.TheVariants.{SmallBuffer, Unwritable}
use Rattle.peer.specs.declared.Peer.{Peer}
use Rattle.wire.specs.Items.{minimal}
use Rattle.wire_put.proofs.Digits.{minimal-three}
use Rattle.message.specs.Message.{Message, encode, frame}
use Rattle.message.specs.View.{fields_of}
use Rattle.pieces.specs.Writable.{writable}
use Rattle.writer.specs.Writer.{answer_of, out_after}
use Rattle.round_trip.proofs.RoundTrip.{fitting, round_trip}
use Rattle.round_trip.proofs.Written.{read-written}
use Rattle.stream.specs.declared.Framing.TheVariants.{Shut}
use Rattle.stream.specs.Stream.{fresh}
use Rattle.cutting.specs.Frames.{message}
use Rattle.octets.proofs.Lists.{take-sets-first}
use Rattle.framing_back.proofs.Back.{frames-arrive}
use Rattle.answer_promises.proofs.Promised.{replies-read-back}
use Rattle.node.specs.declared.Answer.TheVariants.{Heard}
use Rattle.node.specs.Node.{Dealing, untouched, heard_as, heard as heard_of, dealing_of}
use Rattle.demands.specs.Box.{event, heard, Box, Who, is_refused, offer_in, noted, Turn, Fits, Ask, dealing, happens, box, Own, Allowed, Good}
use Rattle.demands.specs.Demands.{Writes, BoxToBox}
use Rattle.demands.proofs.Sound.{sound}
use Rattle.std.specs.Prelude.{Ok, Err, Result}
use Rattle.message.specs.declared.Fields.{Fields}
use Rattle.refusal.specs.declared.Refusal.{Refusal}

-- ---- what is written
frame-most : (body : List ℕ) → length body ≤ most_body → length (frame body) ≤ least_reply
unfolding frame
frame-most body h = omega (arith, length-append (minimal (length body)) body, minimal-three (length body) (omega arith))

pub written : (y : List ℕ) (m : Message) (n : ℕ) → answer_of y m ≡ Ok n → Writes m y n
unfolding answer_of out_after
written y m n e = go (ltb (length y) least_reply) refl (writable m) refl
  where
    go : (a : Bool) → ltb (length y) least_reply ≡ a → (b : Bool) → writable m ≡ b → Writes m y n
    go true p b q = absurd (let x : Err SmallBuffer ≡ Ok n = rw p at e in let z : ◌≡◌ {A = ℕ} 0 1 = cc in omega arith)
    go false p false q = absurd (let x : Err Unwritable ≡ Ok n = rw (p, q) at e in let z : ◌≡◌ {A = ℕ} 0 1 = cc in omega arith)
    go false p true q =
        let x : ◌≡◌ {A = Result ℕ Refusal} (Ok (length (frame (encode m)))) (Ok n) = rw (p, q) at e in
        let c : length (frame (encode m)) ≡ n = cc in
        let o : out_after y m ≡ sets y 0 (frame (encode m)) = rw (p, q) in
        let l : length (frame (encode m)) ≤ length y = omega (arith, frame-most (encode m) (fitting m q).body, ltb-false (length y) least_reply p) in
        record {
          size = sym c;
          stands = ap (take n) o ∙ ap (λ (j : ℕ). take j (sets y 0 (frame (encode m)))) (sym c) ∙ take-sets-first y (frame (encode m)) l;
          rest = ap (drop n) o ∙ drop-sets n y 0 (frame (encode m)) (omega arith);
          back = round_trip m q;
        }

-- ---- what is heard
module _ (you : Peer) (w : Who) (a : Box) (h : w.asking ≡ true) (m : Message) (f : writable m ≡ true) where
  abbrev body : List ℕ
  body = encode m

  -- a message that was written within the limits goes to the host
  heard-dealing : dealing you w a body ≡ untouched (Ok (Heard (length body) (fields_of body))) a.lent
  unfolding dealing_of heard_of
  heard-dealing =
      cond_yes w.asking _ _ h
      ∙ ap (λ (r : Result Fields Refusal). untouched (heard_as (length body) r) a.lent) (read-written m f)

  abbrev noting : ℕ → ℕ → Dealing → Box
  noting i at d = noted i at d.answer d.sight body d.left (offer_in w body) a

  heard-log : (i at : ℕ) → (happens you i w a (message at body)).log ≡ a.log ++ (event i at (heard body (fields_of body)) ∷ [])
  heard-log i at = ap (λ (d : Dealing). (noting i at d).log) heard-dealing

  heard-inbox : (i at : ℕ) → (happens you i w a (message at body)).inbox i ≡ body
  heard-inbox i at = ap (λ (d : Dealing). (noting i at d).inbox i) heard-dealing ∙ cond_yes (eqb i i) body (a.inbox i) (eq-eqb i i refl)

pub box-to-box : (me you : Peer) → Own me → Own you → BoxToBox me you
box-to-box me you o u who h body l room n e s r i f q ps j =
    let b = replies-read-back me who o.roomed h body l room n e in
    let m : List ℕ = encode b.says in
    let fit : length (encode b.says) ≤ most_body = omega (arith, b.short) in
    let c = frames-arrive Who Box Turn Ask (box you) (Allowed you) (Good you) Fits (sound you u) s r i f m fit ps (j ∙ b.stands) in
    let w : Who = (s.lines i).who in
    let a : Box = s.shared.state in
    let at : ℕ = (s.lines i).taken + length (frame (encode b.says)) in (
      b.says,
      b.verdict,
      record {
        body = m;
        means = b.back;
        log = ap (λ (x : Box). x.log) c.state ∙ heard-log you w a q b.says b.fits i at
            ∙ ap (λ (x : ℕ). a.log ++ (event i ((s.lines i).taken + x) (heard m (fields_of m)) ∷ [])) (sym b.size);
        inbox = ap (λ (x : Box). x.inbox i) c.state ∙ heard-inbox you w a q b.says b.fits i at;
        next = c.framing ∙ ap (λ (d : Dealing). cond (is_refused d.answer) Shut fresh) (heard-dealing you w a q b.says b.fits);
      },
    )
