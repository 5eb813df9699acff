-- What a whole message does. Assumes nothing.
use Prim.Native.Nat.{ℕ}
use mathlib.Core.Path.{◌≡◌, ap, ◌∙◌}
use mathlib.Core.Bool.{true, false}
use mathlib.Core.List.{List}
use lib.ListN.{length}
use Rattle.octets.proofs.Bools.{cond_yes, cond_no}
use Rattle.refusal.specs.declared.Refusal.{Refusal}
use Rattle.peer.specs.declared.Peer.{Peer}
use Rattle.peer.proofs.Tidy.{made_tidy}
use Rattle.message.specs.View.{reading_of}
use Rattle.replies.specs.Lent.{Lent}
use Rattle.replies.specs.Verdicts.{Dealt}
use Rattle.answer.specs.Answers.{deal_of}
use Rattle.answer_promises.proofs.Promised.{refused-changes-nothing}
use Rattle.connections.specs.declared.Conn.{Conn}
use Rattle.node.specs.Node.{Dealing, untouched, sight_of, contacts_after, by_answer, served, heard_as, heard, dealing_of}
use Rattle.node_promises.specs.Promises.{MessageDone}
use Rattle.std.specs.Prelude.{Ok, Err, Result}
use Rattle.message.specs.declared.Fields.{Fields}

module _ (me : Peer) (c : Conn) (body : List ℕ) (l : Lent) where
  abbrev deal : Dealt
  deal = deal_of me c.peer body l

  answers : (a : Result ℕ Refusal) → c.asking ≡ false → deal.told ≡ a → dealing_of me c body l ≡ by_answer a deal.left me c l
  unfolding dealing_of served
  answers a h e = cond_no c.asking _ _ h ∙ ap (λ (x : Result ℕ Refusal). by_answer x deal.left me c l) e

  refuses : (r : Refusal) → c.asking ≡ false → deal.told ≡ Err r → dealing_of me c body l ≡ untouched (Err r) l
  refuses r h e = answers (Err r) h e ∙ ap (untouched (Err r)) (refused-changes-nothing me c.peer body l r e)

  reads : (r : Result Fields Refusal) → c.asking ≡ true → reading_of body ≡ r → dealing_of me c body l ≡ untouched (heard_as (length body) r) l
  unfolding dealing_of heard
  reads r h e = cond_yes c.asking _ _ h ∙ ap (λ (x : Result Fields Refusal). untouched (heard_as (length body) x) l) e

pub message-done : MessageDone
unfolding sight_of contacts_after
message-done =
    record {
      refuses = refuses;
      replies = λ me c body l n h e. answers me c body l (Ok n) h e;
      opened = made_tidy;
      declines = λ me c body l r h e. reads me c body l (Err r) h e;
      hears = λ me c body l f h e. reads me c body l (Ok f) h e;
    }
