-- Calls keep a world ready, whatever the layer. Assumes nothing.
use Prim.Native.Nat.{ℕ}
use mathlib.Core.Path.{sym, subst}
use mathlib.Core.List.{List, [], ◌∷◌}
use lib.Dec.{eqb}
use Rattle.octets.proofs.Bools.{cond_ind}
use Rattle.cutting.specs.World.{Did, here, put_back, Line, Shared, World, Layer, Call, hand, does, asks, handed, acted, call, calls, Fine, Sound, Ready, AllFit}
use Rattle.cutting.proofs.World.{Well, play-well, handed-play}

module _ {P A B O : Type 0} (L : Layer P A B O) {Peer : P → Type 0} {Good : A → Type 0} {Fits : B → Type 0} (S : Sound L Peer Good Fits) where
  put-ready : (s : World P A O) (i : ℕ) (d : Did (Line P) (Shared A O)) → Ready Peer Good s → Fine Peer d.line → Good d.shared.state
      → Ready Peer Good (put_back s i d)
  put-ready s i d r f g = record { lines = λ j. cond_ind (Fine Peer) (eqb j i) d.line (s.lines j) (λ e. f) (λ e. r.lines j); good = g }

  abbrev pub FitsCall : Call B O → Type 0
  FitsCall (hand i p) = Unit {0}
  FitsCall (does i b) = Fits b
  FitsCall (asks o) = Unit {0}

  pub call-ready : (s : World P A O) (c : Call B O) → Ready Peer Good s → FitsCall c → Ready Peer Good (call L s c)
  unfolding call
  call-ready s (hand i p) r f =
      let w : Well L S (here s i) = record { line = r.lines i; good = r.good } in
      let v : Well L S (handed L i (here s i) p) = subst (Well L S) (sym (handed-play L S i (here s i) p w)) (play-well L S p i (here s i) w) in
      put-ready s i (handed L i (here s i) p) r v.line v.good
  call-ready s (does i b) r f =
      put-ready s i (acted L i b (here s i)) r (S.act-line i b (s.lines i) s.shared.state f (r.lines i) r.good)
      (S.act-good i b (s.lines i) s.shared.state f (r.lines i) r.good)
  call-ready s (asks o) r f = record { lines = r.lines; good = S.hosts s.shared.state o r.good }

  pub calls-ready : (cs : List (Call B O)) (s : World P A O) → Ready Peer Good s → AllFit Fits cs → Ready Peer Good (calls L s cs)
  unfolding calls AllFit
  calls-ready [] s r f = r
  calls-ready (hand i p ∷ cs) s r f = calls-ready cs (call L s (hand i p)) (call-ready s (hand i p) r tt) f
  calls-ready (does i b ∷ cs) s r f = calls-ready cs (call L s (does i b)) (call-ready s (does i b) r f.0) f.1
  calls-ready (asks o ∷ cs) s r f = calls-ready cs (call L s (asks o)) (call-ready s (asks o) r tt) f
