-- `sha256::advance_sixteen` meets its contract. Each round hands what is done on to the next. Assumes nothing.
use Rattle.std.proofs.Common.{◌+◌, sym, refl, add-zero, ltb-true}
use Rattle.sha256.proofs.Schedule.{done_at}
use Rattle.sha256.proofs.advance_sixteen.Goals as goal

pub advance-v-requires : goal.advance-v-requires
advance-v-requires c = (ltb-true 0 16 refl, c.requires)

pub advance-v-requires-2 : goal.advance-v-requires-2
advance-v-requires-2 c = (ltb-true 1 16 refl, c.requires)

pub advance-v-requires-3 : goal.advance-v-requires-3
advance-v-requires-3 c = (ltb-true 2 16 refl, c.requires)

pub advance-v-requires-4 : goal.advance-v-requires-4
advance-v-requires-4 c = (ltb-true 3 16 refl, c.requires)

pub advance-v-requires-5 : goal.advance-v-requires-5
advance-v-requires-5 c = (ltb-true 4 16 refl, c.requires)

pub advance-v-requires-6 : goal.advance-v-requires-6
advance-v-requires-6 c = (ltb-true 5 16 refl, c.requires)

pub advance-v-requires-7 : goal.advance-v-requires-7
advance-v-requires-7 c = (ltb-true 6 16 refl, c.requires)

pub advance-v-requires-8 : goal.advance-v-requires-8
advance-v-requires-8 c = (ltb-true 7 16 refl, c.requires)

pub advance-v-requires-9 : goal.advance-v-requires-9
advance-v-requires-9 c = (ltb-true 8 16 refl, c.requires)

pub advance-v-requires-10 : goal.advance-v-requires-10
advance-v-requires-10 c = (ltb-true 9 16 refl, c.requires)

pub advance-v-requires-11 : goal.advance-v-requires-11
advance-v-requires-11 c = (ltb-true 10 16 refl, c.requires)

pub advance-v-requires-12 : goal.advance-v-requires-12
advance-v-requires-12 c = (ltb-true 11 16 refl, c.requires)

pub advance-v-requires-13 : goal.advance-v-requires-13
advance-v-requires-13 c = (ltb-true 12 16 refl, c.requires)

pub advance-v-requires-14 : goal.advance-v-requires-14
advance-v-requires-14 c = (ltb-true 13 16 refl, c.requires)

pub advance-v-requires-15 : goal.advance-v-requires-15
advance-v-requires-15 c = (ltb-true 14 16 refl, c.requires)

pub advance-requires : goal.advance-requires
advance-requires c = (ltb-true 15 16 refl, c.requires)

pub returns : goal.returns
returns c b s d = let t = c.args.t in
    let d1 = c.advance-v.ensures b s (done_at (t + 0) d (sym (add-zero t))) in
    let d2 = c.advance-v-2.ensures b s d1 in
    let d3 = c.advance-v-3.ensures b s d2 in
    let d4 = c.advance-v-4.ensures b s d3 in
    let d5 = c.advance-v-5.ensures b s d4 in
    let d6 = c.advance-v-6.ensures b s d5 in
    let d7 = c.advance-v-7.ensures b s d6 in
    let d8 = c.advance-v-8.ensures b s d7 in
    let d9 = c.advance-v-9.ensures b s d8 in
    let d10 = c.advance-v-10.ensures b s d9 in
    let d11 = c.advance-v-11.ensures b s d10 in
    let d12 = c.advance-v-12.ensures b s d11 in
    let d13 = c.advance-v-13.ensures b s d12 in
    let d14 = c.advance-v-14.ensures b s d13 in
    let d15 = c.advance-v-15.ensures b s d14 in
    c.advance.ensures b s d15
