-- What a request is answered with, by its type: RULES, Answers, refusals 5 to 11.
use Rattle.std.specs.Prelude.{ℕ, cond, List, eqb}
use Rattle.refusal.specs.declared.Refusal.TheVariants.{Providers}
use Rattle.peer.specs.declared.Peer as peers
use Rattle.message.specs.Message.{Message, message_of}
use Rattle.message.specs.View.{reading_of}
use Rattle.replies.specs.Lent.{Lent, with_records}
use Rattle.message.specs.Kinds.{put_value, get_value, find_node, ping}
use Rattle.replies.specs.Replies.{find_node_reply, get_value_reply, ping_reply}
use Rattle.replies.specs.Verdicts.{Verdict, replies, refuses, keyed, put_verdict, put_after, Dealt, refused, by_verdict}
use Rattle.std.specs.Prelude.{Ok, Err, Result}
use Rattle.message.specs.declared.Fields.{Fields}
use Rattle.refusal.specs.declared.Refusal.{Refusal}

-- the request m to us, from the requester, over lent memory. A well-formed message's type is 0 to 5; 2 and 3 are left, which give 7
unfoldable pub verdict_of : peers.Peer → peers.Peer → Message → Lent → Verdict
verdict_of me who m l =
    cond (eqb m.kind put_value) (put_verdict m.key m.held l.records)
    (cond (eqb m.kind get_value) (keyed m.key (get_value_reply l.contacts l.records m.key))
    (cond (eqb m.kind find_node) (keyed m.key (find_node_reply me who l.contacts m.key))
    (cond (eqb m.kind ping) (replies ping_reply)
    (refuses Providers))))

-- the records afterwards: a PUT_VALUE that isn't refused stores its record
unfoldable pub records_after : Message → List ℕ → List ℕ
records_after m k = cond (eqb m.kind put_value) (put_after m.key m.held k) k

-- a request that was read
abbrev pub by_request : peers.Peer → peers.Peer → Message → Lent → Dealt
by_request me who m l = by_verdict (verdict_of me who m l) (with_records l (records_after m l.records)) l

-- the body of a request, read: 5 and 6 are the reader's
abbrev pub by_reading : Result Fields Refusal → peers.Peer → peers.Peer → Message → Lent → Dealt
by_reading (Err r) me who m l = refused r l
by_reading (Ok f) me who m l = by_request me who m l

unfoldable pub deal_of : peers.Peer → peers.Peer → List ℕ → Lent → Dealt
deal_of me who body l = by_reading (reading_of body) me who (message_of body) l
