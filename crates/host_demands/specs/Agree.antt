-- Request xiv, 'Two benches agree', of programs that call crate `host`; proofs/Agree.antt shows it (`programs-agree`). `NoRecords`, `HoldSame` and `Highest` are
-- crate records_history's, specs/Agree; `Brings` is crate demands'.
use Rattle.std.specs.Prelude.{ℕ, ◌≡◌, ◌⊎◌, List, [], ◌∷◌}
use Rattle.recipe.specs.Recipe.{is_recipe}
use Rattle.records_history.specs.History.{got}
use Rattle.records_history.specs.Agree.{NoRecords, HoldSame, Highest}
use Rattle.cutting.specs.World.{AllFit}
use Rattle.demands.specs.Box.{Fits}
use Rattle.demands.specs.Agree.{Brings}
use Rattle.host_demands.specs.Calls as host
use Rattle.host_demands.specs.Calls.{Memory, Export, Enough, returns, leaves, leaves_all, meant_all, line_in, world_in}
use Rattle.host_demands.specs.Hosted.{Started, nothing_yet, ReadyFor, Cleared, Finds}

module _ (me : List ℕ) where
  -- the call c on the memory m offers a record to the store, whatever it returns: it is typed, or the piece of a receive completes a PUT_VALUE of it, "the message
  -- key then being the record's". "Every offer reaches": what is lost to 3 to 6, to 19 or to a shut connection is none; 0 and 1 don't come up (`ready`, `fit`)
  pub data Offers (m : Memory) (key value : List ℕ) (c : Export) : Type 0 where
    typed : c ≡ host.put key value → Offers m key value c
    sent : (i : ℕ) (piece : List ℕ) → c ≡ host.receives i piece → Brings (line_in (m.conns i) (m.buffers i) (m.taken i)) piece key value → Offers m key value c

  -- one of the calls, as they come, does so
  unfoldable pub SomeOffers : List ℕ → List ℕ → Memory → List Export → Type 0
  SomeOffers key value m [] = ⊥
  SomeOffers key value m (c ∷ cs) = Offers m key value c ⊎ SomeOffers key value (leaves me m c) cs

  -- "neither ever gave 11": none of them returns it
  unfoldable pub Never11 : Memory → List Export → Type 0
  Never11 m [] = Unit {0}
  Never11 m (c ∷ cs) = (returns me m c ≡ 11 → ⊥) × Never11 (leaves me m c) cs

-- a program: the memory of a box that starterbell_start wrote, the memory that it lends, "no records" in it, and its calls
pub record Program : Type 0 where
  pub me : List ℕ
  pub started : Started me
  pub memory : Memory
  pub enough : Enough memory
  pub ready : ReadyFor me (world_in memory nothing_yet)
  pub empty : NoRecords memory.lent.records
  pub calls : List Export
  pub fit : AllFit Fits (meant_all me memory calls)
  pub never : Never11 me memory calls

module _ (p : Program) where
  abbrev pub end : Memory
  end = leaves_all p.me p.memory p.calls

  abbrev pub WasOffered : List ℕ → List ℕ → Type 0
  WasOffered key value = SomeOffers p.me key value p.memory p.calls

-- "offered the same set of records .. in any order and with repeats"
pub record SameOffers (p q : Program) : Type 0 where
  pub there : (key value : List ℕ) → WasOffered p key value → WasOffered q key value
  pub back : (key value : List ℕ) → WasOffered q key value → WasOffered p key value

pub record ProgramsAgree : Type 0 where
  -- "they hold the same keys with identical values"
  pub two : (p q : Program) → SameOffers p q → HoldSame (end p).lent.records (end q).lent.records
  -- so starterbell_find returns the same, and a value that it and the replies to GET_VALUE give in one program, they give in the other
  pub find : (p q : Program) → SameOffers p q → (key : List ℕ) → returns p.me (end p) (host.find key) ≡ returns q.me (end q) (host.find key)
  pub found : (p q : Program) → SameOffers p q → (key v : List ℕ) → Finds p.me (end p) key v → Finds q.me (end q) key v
  -- any number of programs
  pub all : (p : ℕ → Program) → ((i : ℕ) → SameOffers (p 0) (p i)) → (i j : ℕ) → HoldSame (end (p i)).lent.records (end (p j)).lent.records
  -- what each holds: the highest-ranking of what it was offered that 8 and 9 don't refuse
  pub highest : (p : Program) (key : List ℕ) → Highest is_recipe key (WasOffered p key) (got (end p).lent.records key)
  -- and memory once cleared has no records
  pub begin : (m : Memory) → Cleared m → NoRecords m.lent.records
