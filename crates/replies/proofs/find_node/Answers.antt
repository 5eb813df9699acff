-- `find_node`: the contacts, and one last entry where it is due.
-- the requester's place has 32 bytes
use native.Mathlib.Omega.{arith}
use mathlib.Core.Path.{◌≡◌, sym}
use lib.ListN.{length, length-map}
use Rattle.replies.proofs.Whole.{framed_is, near-few, near-long, find-listed, find-me, find-who, find_none}
use borrow.Author.Rules.{rules}
use Rattle.replies.proofs.find_node.Goals as goal
use Rattle.replies.proofs.find_node.Goals.{Start}

theirs-long : (c : Start) → length c.args.who.place ≡ 32
theirs-long c = omega arith

pub lies_among-requires : goal.lies_among-requires
lies_among-requires c = near-long _ _ _ c.nearest-near.ensures

pub reply_closer-requires : goal.reply_closer-requires
reply_closer-requires c = (omega (arith, near-few _ _ _ c.nearest-near.ensures), omega (arith, near-long _ _ _ c.nearest-near.ensures), omega arith)

pub returns-then-lies_among : goal.returns-then-lies_among
returns-then-lies_among c = framed_is _ _ _ _ _ (find-listed c.args.me c.args.who _ _ _ _ c.place_of-target.ensures c.nearest-near.ensures _ c.lies_among.ensures c.if-lies_among.true) c.reply_closer.ensures

pub reply_last-requires : goal.reply_last-requires
reply_last-requires c = (omega (arith, near-few _ _ _ c.nearest-near.ensures), omega (arith, near-long _ _ _ c.nearest-near.ensures))

pub returns-then-same_bytes : goal.returns-then-same_bytes
returns-then-same_bytes c = framed_is _ _ _ _ _ (find-me c.args.me c.args.who _ _ _ _ c.place_of-target.ensures c.nearest-near.ensures _ c.lies_among.ensures c.if-lies_among.false _ c.same_bytes.ensures c.if-same_bytes.true) c.reply_last.ensures

pub slice_bounds-same_bytes-end-4 : goal.slice_bounds-same_bytes-end-4
slice_bounds-same_bytes-end-4 c = sym (theirs-long (goal.at.slice_bounds-same_bytes-end-4 c).Start)

pub reply_last-requires-then-same_bytes-2 : goal.reply_last-requires-then-same_bytes-2
reply_last-requires-then-same_bytes-2 c = (omega (arith, near-few _ _ _ c.nearest-near.ensures), omega (arith, near-long _ _ _ c.nearest-near.ensures))

pub returns-then-same_bytes-2 : goal.returns-then-same_bytes-2
returns-then-same_bytes-2 c = framed_is _ _ _ _ _ (find-who c.args.me c.args.who _ _ _ _ c.place_of-target.ensures c.nearest-near.ensures _ c.lies_among.ensures c.if-lies_among.false _ c.same_bytes.ensures c.if-same_bytes.false _ c.same_bytes-2.ensures c.if-same_bytes-2.true) c.reply_last-then-same_bytes-2.ensures

pub reply_closer-requires-2 : goal.reply_closer-requires-2
reply_closer-requires-2 c = (omega (arith, near-few _ _ _ c.nearest-near.ensures), omega (arith, near-long _ _ _ c.nearest-near.ensures), omega arith)

pub returns : goal.returns
returns c = framed_is _ _ _ _ _ (find_none c.args.me c.args.who _ _ _ _ c.place_of-target.ensures c.nearest-near.ensures _ c.lies_among.ensures c.if-lies_among.false _ c.same_bytes.ensures c.if-same_bytes.false _ c.same_bytes-2.ensures c.if-same_bytes-2.false) c.reply_closer-2.ensures
