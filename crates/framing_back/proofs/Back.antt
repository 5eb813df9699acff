-- What is written is what a connection reads: each claim of specs/Claims.antt. Assumes nothing.
use Prim.Native.Nat.{ℕ, ◌+◌, ◌≤◌}
use mathlib.Core.Path.{◌≡◌, refl, sym, ap, ◌∙◌, subst}
use mathlib.Core.List.{List, [], ◌∷◌, ◌++◌, append_assoc, append-nil}
use mathlib.Core.Bool.{Bool, cond}
use native.Mathlib.Omega.{arith}
use lib.ListN.{length, take, drop, length-append}
use lib.Seq.{drop_at, take_at}
use lib.Dec.{eqb}
use borrow.Author.Tests.{le-leb}
use Rattle.octets.proofs.Bools.{cond_no}
use Rattle.limits.specs.Limits.{most_body}
use Rattle.wire.specs.Items.{minimal}
use Rattle.message.specs.Message.{frame}
use Rattle.stream.specs.declared.Prefixed.{Prefixed}
use Rattle.stream.specs.declared.Framing.{Framing}
use Rattle.stream.specs.declared.Framing.TheVariants.{Shut}
use Rattle.stream.specs.Stream.{fresh, is_shut, Out, out, run_of}
use Rattle.cutting.specs.Frames.{message, partly, whole, head_by, head_of, framing_of, half_of}
use Rattle.cutting.specs.World.{Did, here, put_back, Line, Shared, World, Layer, joined, handed, handed_all, call, calls, Sound, Ready}
use Rattle.cutting.proofs.Heads.{Ran, RanWhole, head-run}
use Rattle.cutting.proofs.Order.{here_back, back-back, back-here}
use Rattle.cutting.proofs.World.{Well, lands, play, play-all, handed-all}
use Rattle.framing_back.specs.Claims.{ReadWhole, FramesReadBack, hands, Arrives, FramesArrive, Claims}
use Rattle.framing_back.proofs.Prefix.{prefix_back}
use Rattle.framing_back.proofs.Varints.{prefix-is-varint}
use Rattle.std.specs.Prelude.{Ok, Some}

-- ---- at the start of any bytes
module _ (body rest : List ℕ) (h : length body ≤ most_body) where
  abbrev prefix : List ℕ
  prefix = minimal (length body)

  parted : frame body ++ rest ≡ prefix ++ (body ++ rest)
  unfolding frame
  parted = append_assoc prefix body rest

  size : length prefix + length body ≡ length (frame body)
  unfolding frame
  size = sym (length-append prefix body)

  fits : length prefix + length body ≤ length (prefix ++ (body ++ rest))
  fits = omega (arith, length-append prefix (body ++ rest), length-append body rest)

  head-back : head_of (frame body ++ rest) ≡ whole (length prefix) (length body)
  head-back =
      ap (λ (bs : List ℕ). head_of bs) parted
      ∙ ap (λ (p : Prefixed). head_by p.lead p.taken (prefix ++ (body ++ rest))) (prefix_back (length body) (body ++ rest) h)
      ∙ ap (λ (t : Bool). cond t (whole (length prefix) (length body)) partly) (le-leb _ _ fits)

  read_whole : ReadWhole body rest
  read_whole =
      record {
        prefix = length prefix;
        head = head-back;
        bytes = ap (λ (bs : List ℕ). take (length body) (drop (length prefix) bs)) parted
            ∙ ap (take (length body)) (drop_at prefix (body ++ rest) (length prefix) refl) ∙ take_at body rest (length body) refl;
        size = size;
      }

pub frames-read-back : FramesReadBack
frames-read-back body rest h = read_whole body rest h

-- ---- handed over in pieces
module _ {P A B O : Type 0} (L : Layer P A B O) where
  abbrev Here : Type 0
  Here = Did (Line P) (Shared A O)

  calls-hands : (ps : List (List ℕ)) (i : ℕ) (s : World P A O) → calls L s (hands i ps) ≡ put_back s i (handed_all L i (here s i) ps)
  unfolding calls call handed_all
  calls-hands [] i s = sym (back-here s i)
  calls-hands (p ∷ ps) i s =
      let d : Here = handed L i (here s i) p in
      calls-hands ps i (put_back s i d) ∙ ap (λ (x : Here). put_back (put_back s i d) i (handed_all L i x ps)) (here_back s i d)
      ∙ back-back s i d (handed_all L i d ps)

  module _ {Peer : P → Type 0} {Good : A → Type 0} {Fits : B → Type 0} (S : Sound L Peer Good Fits) where
    -- the message whole, and nothing after it
    played : (i : ℕ) (d : Here) (body : List ℕ) → Well L S d → d.line.framing ≡ fresh → (h : length body ≤ most_body)
        → (b : List ℕ) × (take (length body) b ≡ body) × (play L i d (frame body) ≡ lands L i d (out fresh (length (frame body)) (Ok (Some (length body))) b))
    played i d body w f h =
        let z : frame body ++ [] ≡ frame body = append-nil (frame body) in
        let r = read_whole body [] h in
        let e : head_of (frame body) ≡ whole r.prefix (length body) = ap (λ (bs : List ℕ). head_of bs) (sym z) ∙ r.head in
        let g : RanWhole d.line.buffer (frame body) r.prefix (length body) =
        subst (Ran d.line.buffer (frame body) (framing_of (frame body)) (half_of (frame body))) e (head-run d.line.buffer (frame body) w.line.room) in
        let o : Out = out fresh (length (frame body)) (Ok (Some (length body))) g.buffer in
        let ran : run_of d.line.framing d.line.buffer (frame body) ≡ o =
        ap (λ (x : Framing). run_of x d.line.buffer (frame body)) f ∙ g.runs ∙ ap (λ (n : ℕ). out fresh n (Ok (Some (length body))) g.buffer) r.size in (
          g.buffer,
          g.body ∙ ap (λ (bs : List ℕ). take (length body) (drop r.prefix bs)) (sym z) ∙ r.bytes,
          play-all L (frame body) i d o (ap is_shut f) ran (omega arith),
        )

    arrives : (s : World P A O) → Ready Peer Good s → (i : ℕ) → (s.lines i).framing ≡ fresh → (body : List ℕ) → length body ≤ most_body
        → (ps : List (List ℕ)) → joined ps ≡ frame body → Arrives L i body s (calls L s (hands i ps))
    arrives s r i f body h ps e =
        let w : Well L S (here s i) = record { line = r.lines i; good = r.good } in
        let p = played i (here s i) body w f h in
        let at : ℕ = (s.lines i).taken + length (frame body) in
        let g : Here = lands L i (here s i) (out fresh (length (frame body)) (Ok (Some (length body))) p.0) in
        let q : calls L s (hands i ps) ≡ put_back s i g =
        calls-hands ps i s ∙ ap (put_back s i) (handed-all L S ps i (here s i) w ∙ ap (play L i (here s i)) e ∙ p.2) in
        let y : Arrives L i body s (put_back s i g) =
        record {
          who = ap (λ (x : Here). x.line.who) (here_back s i g);
          taken = ap (λ (x : Here). x.line.taken) (here_back s i g);
          framing = ap (λ (x : Here). x.line.framing) (here_back s i g)
              ∙ ap (λ (b : List ℕ). cond (L.stops i (s.lines i).who s.shared.state (message at b)) Shut fresh) p.1;
          state = ap (λ (b : List ℕ). L.put i (s.lines i).who s.shared.state (message at b)) p.1;
          order = refl;
          others = λ j n. cond_no (eqb j i) g.line (s.lines j) n;
        } in
        subst (Arrives L i body s) (sym q) y

pub frames-arrive : FramesArrive
frames-arrive P A B O L Peer Good Fits S s r i f body h ps e = arrives L S s r i f body h ps e

pub claims : Claims
claims = record { prefix = prefix-is-varint; back = frames-read-back; arrive = frames-arrive }
