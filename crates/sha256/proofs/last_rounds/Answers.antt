-- `sha256::last_rounds` meets its contract. Each round hands what is done on to the next. Assumes nothing.
use Rattle.std.proofs.Common.{refl, ltb-true}
use Rattle.sha256.proofs.last_rounds.Goals as goal

pub last_round-v-requires : goal.last_round-v-requires
last_round-v-requires c = (ltb-true 0 16 refl, c.requires)

pub last_round-v-requires-2 : goal.last_round-v-requires-2
last_round-v-requires-2 c = (ltb-true 1 16 refl, c.requires)

pub last_round-v-requires-3 : goal.last_round-v-requires-3
last_round-v-requires-3 c = (ltb-true 2 16 refl, c.requires)

pub last_round-v-requires-4 : goal.last_round-v-requires-4
last_round-v-requires-4 c = (ltb-true 3 16 refl, c.requires)

pub last_round-v-requires-5 : goal.last_round-v-requires-5
last_round-v-requires-5 c = (ltb-true 4 16 refl, c.requires)

pub last_round-v-requires-6 : goal.last_round-v-requires-6
last_round-v-requires-6 c = (ltb-true 5 16 refl, c.requires)

pub last_round-v-requires-7 : goal.last_round-v-requires-7
last_round-v-requires-7 c = (ltb-true 6 16 refl, c.requires)

pub last_round-v-requires-8 : goal.last_round-v-requires-8
last_round-v-requires-8 c = (ltb-true 7 16 refl, c.requires)

pub last_round-v-requires-9 : goal.last_round-v-requires-9
last_round-v-requires-9 c = (ltb-true 8 16 refl, c.requires)

pub last_round-v-requires-10 : goal.last_round-v-requires-10
last_round-v-requires-10 c = (ltb-true 9 16 refl, c.requires)

pub last_round-v-requires-11 : goal.last_round-v-requires-11
last_round-v-requires-11 c = (ltb-true 10 16 refl, c.requires)

pub last_round-v-requires-12 : goal.last_round-v-requires-12
last_round-v-requires-12 c = (ltb-true 11 16 refl, c.requires)

pub last_round-v-requires-13 : goal.last_round-v-requires-13
last_round-v-requires-13 c = (ltb-true 12 16 refl, c.requires)

pub last_round-v-requires-14 : goal.last_round-v-requires-14
last_round-v-requires-14 c = (ltb-true 13 16 refl, c.requires)

pub last_round-v-requires-15 : goal.last_round-v-requires-15
last_round-v-requires-15 c = (ltb-true 14 16 refl, c.requires)

pub last_round-requires : goal.last_round-requires
last_round-requires c = (ltb-true 15 16 refl, c.requires)

pub returns : goal.returns
returns c b s d = let d1 = c.last_round-v.ensures b s d in
    let d2 = c.last_round-v-2.ensures b s d1 in
    let d3 = c.last_round-v-3.ensures b s d2 in
    let d4 = c.last_round-v-4.ensures b s d3 in
    let d5 = c.last_round-v-5.ensures b s d4 in
    let d6 = c.last_round-v-6.ensures b s d5 in
    let d7 = c.last_round-v-7.ensures b s d6 in
    let d8 = c.last_round-v-8.ensures b s d7 in
    let d9 = c.last_round-v-9.ensures b s d8 in
    let d10 = c.last_round-v-10.ensures b s d9 in
    let d11 = c.last_round-v-11.ensures b s d10 in
    let d12 = c.last_round-v-12.ensures b s d11 in
    let d13 = c.last_round-v-13.ensures b s d12 in
    let d14 = c.last_round-v-14.ensures b s d13 in
    let d15 = c.last_round-v-15.ensures b s d14 in
    c.last_round.ensures b s d15
