-- Each lookup of a program is the run of its own start and calls: from the same of the world that its memory stands for. Assumes nothing.
use Prim.Native.Nat.{ℕ, zero, suc}
use native.Mathlib.Omega.{arith}
use mathlib.Core.Path.{◌≡◌, refl, sym, ap, ◌∙◌, subst}
use mathlib.Core.List.{List, [], ◌∷◌, ◌++◌, map, map-append, map-map}
use lib.ListN.{length, drop, length-map}
use lib.Seq.{drop-append_seam}
use Rattle.lookup.specs.Value.{Lookup, Step}
use Rattle.lookup_runs.specs.Runs.{step}
use Rattle.lookup_runs.specs.History.{Event, history}
use Rattle.cutting.specs.World.{World, Call, call, calls, AllFit}
use Rattle.flat.specs.Flat.{peer_in}
use Rattle.flat_lookup.specs.FlatLookup.{lookup_in}
use Rattle.demands.specs.Box.{Box, Who, Entry, called, step_gave, Turn, Ask, Fits, box}
use Rattle.demands.specs.Lookups.{Trace, Part, starts, goes, neither, trace_with, part_of, traced, start_in, IsRun}
use Rattle.demands.proofs.Traced.{is-run, There, with-there, start-there, lookups-are-runs}
use Rattle.host_demands.specs.Calls as host
use Rattle.host_demands.specs.Calls.{Memory, Export, Enough, History, Seen, leaves, meant, sees_of, leaves_all, meant_all, world_in, Stands, entry_seen}
use Rattle.host_demands.specs.Hosted.{Started, ReadyFor, Follows}
use Rattle.host_demands.specs.Lookups.{traced_in, step_seen, LookupBytesAreRuns}
use Rattle.host_demands.proofs.Running.{one-call, all-calls, ready-after, later-fit}
use Rattle.std.specs.Prelude.{Some, None, Option}
use Rattle.std.proofs.lemmas.Option.{same_Some}

-- ---- a trace, as the program sees it
abbrev seen_trace : Trace Entry → Trace Seen
seen_trace x = record { table = x.table; key = x.key; limit = x.limit; calls = x.calls; told = map entry_seen x.told }

abbrev seen_if : Option (Trace Entry) → Option (Trace Seen)
seen_if None = None
seen_if (Some x) = Some (seen_trace x)

seen-with : (t : List ℕ) (es : List Entry) (p : Part) (x : Option (Trace Entry)) → trace_with t (map entry_seen es) p (seen_if x) ≡ seen_if (trace_with t es p x)
seen-with t es (starts key limit) x = refl
seen-with t es (goes c) None = refl
seen-with t es (goes c) (Some x) =
    λ z. Some
    (record {
      table = x.table;
      key = x.key;
      limit = x.limit;
      calls = x.calls ++ (c ∷ []);
      told = sym (map-append entry_seen x.told es) z;
    })
seen-with t es neither x = refl

-- what the log got is what the program saw
map-drop : {A B : Type 0} (f : A → B) (n : ℕ) (l : List A) → map f (drop n l) ≡ drop n (map f l)
map-drop f zero l = refl
map-drop f (suc n) [] = refl
map-drop f (suc n) (x ∷ l) = map-drop f n l

got : (l k : List Entry) (ss : List Seen) → map entry_seen k ≡ map entry_seen l ++ ss → ss ≡ map entry_seen (drop (length l) k)
got l k ss e =
    sym (map-drop entry_seen (length l) k ∙ ap (drop (length l)) e ∙ ap (λ (n : ℕ). drop n (map entry_seen l ++ ss)) (sym (length-map l entry_seen))
    ∙ drop-append_seam (map entry_seen l) ss)

module _ (me : List ℕ) (S : Started me) (j : ℕ) where
  -- a call on memory that stands for a world
  with-same : (m : Memory) (w : World Who Box Ask) (c : Export) (x : Option (Trace Entry)) → Enough m → ReadyFor me w → Stands m w
      → trace_with m.lent.contacts (sees_of me m c) (part_of (peer_in me) j m.inbox (meant me m c)) (seen_if x)
      ≡ seen_if (trace_with w.shared.state.lent.contacts
      (drop (length w.shared.state.log) (call (box (peer_in me)) w (meant me m c)).shared.state.log)
      (part_of (peer_in me) j w.shared.state.inbox (meant me m c)) x)
  with-same m w c x l r e =
      let d : Call Turn Ask = meant me m c in
      let log : List Entry = (call (box (peer_in me)) w d).shared.state.log in
      let es : List Entry = drop (length w.shared.state.log) log in
      ap (λ (ss : List Seen). trace_with m.lent.contacts ss (part_of (peer_in me) j m.inbox d) (seen_if x))
      (got w.shared.state.log log (sees_of me m c) (one-call me S m w c l r e).log)
      ∙ seen-with m.lent.contacts es (part_of (peer_in me) j m.inbox d) x
      ∙ ap (λ (v : World Who Box Ask). seen_if (trace_with v.shared.state.lent.contacts es (part_of (peer_in me) j v.shared.state.inbox d) x)) e

  traces-same : (cs : List Export) (m : Memory) (w : World Who Box Ask) (x : Option (Trace Entry)) → Enough m → ReadyFor me w → Stands m w → AllFit Fits (meant_all me m cs)
      → traced_in me j m (seen_if x) cs ≡ seen_if (traced (peer_in me) j w x (meant_all me m cs))
  unfolding traced_in traced meant_all
  traces-same [] m w x l r e f = refl
  traces-same (c ∷ cs) m w x l r e f =
      let one : Follows me m w c = one-call me S m w c l r e in
      let v : World Who Box Ask = call (box (peer_in me)) w (meant me m c) in
      let y : Option (Trace Entry) =
      trace_with w.shared.state.lent.contacts (drop (length w.shared.state.log) v.shared.state.log) (part_of (peer_in me) j w.shared.state.inbox (meant me m c)) x in
      ap (λ (o : Option (Trace Seen)). traced_in me j (leaves me m c) o cs) (with-same m w c x l r e)
      ∙ traces-same cs (leaves me m c) v y one.enough (ready-after me S m w c cs r f) one.stands (later-fit me S m c cs f)

  -- a run of the world's is one of the program's
  seen-run : (l : Lookup) (x : Trace Entry) → IsRun (peer_in me) (λ g. called (step_gave g)) x l → IsRun (peer_in me) step_seen (seen_trace x) l
  seen-run l x r =
      let s : Step = start_in (peer_in me) x in
      let gave : List Step = s ∷ map (λ (e : Event). e.gave) (history step s x.calls) in
      is-run (peer_in me) step_seen (seen_trace x) l r.lookup (ap (map entry_seen) r.told ∙ map-map entry_seen (λ (g : Step). called (step_gave g)) gave)

  -- a trace that the program has is that of the world, as it sees it
  seen_if_lem : (l : Lookup) (o : Option (Trace Entry)) → ((y : Trace Entry) → o ≡ Some y → IsRun (peer_in me) (λ g. called (step_gave g)) y l)
      → (x : Trace Seen) → seen_if o ≡ Some x → IsRun (peer_in me) step_seen x l
  seen_if_lem l None r x e = let z : ◌≡◌ {A = ℕ} 0 1 = cc in absurd (omega arith)
  seen_if_lem l (Some y) r x e = subst (λ (z : Trace Seen). IsRun (peer_in me) step_seen z l) (same_Some (seen_trace y) x e) (seen-run l y (r y refl))

  -- a start gives a trace, and calls keep one
  traced-there : (cs : List Export) (m : Memory) (o : Option (Trace Seen)) → There o → There (traced_in me j m o cs)
  unfolding traced_in
  traced-there [] m o h = h
  traced-there (c ∷ cs) m o h = traced-there cs (leaves me m c) _ (with-there _ _ (part_of (peer_in me) j m.inbox (meant me m c)) o h)

  begins-there : (key : List ℕ) (limit : ℕ) (before after : List Export) (m : Memory) (o : Option (Trace Seen))
      → There (traced_in me j m o (before ++ (host.lookup_starts j key limit ∷ after)))
  unfolding traced_in
  begins-there key limit [] after m o =
      traced-there after (leaves me m (host.lookup_starts j key limit)) _ (start-there (peer_in me) j _ _ m.inbox key limit o)
  begins-there key limit (c ∷ before) after m o = begins-there key limit before after (leaves me m c) _

pub lookup-bytes-are-runs : (me : List ℕ) → Started me → LookupBytesAreRuns me
lookup-bytes-are-runs me S =
    record {
      runs = λ m h cs len ready fit j x e.
          let w : World Who Box Ask = world_in m h in
          let end : World Who Box Ask = calls (box (peer_in me)) w (meant_all me m cs) in
          let same : lookup_in ((leaves_all me m cs).lookups j) ≡ end.shared.state.lookups j =
          ap (λ (v : World Who Box Ask). v.shared.state.lookups j) (all-calls me S m w cs len ready refl fit).stands in
          subst (λ (l : Lookup). IsRun (peer_in me) step_seen x l) (sym same)
          (seen_if_lem me S j (end.shared.state.lookups j) (traced (peer_in me) j w None (meant_all me m cs))
          (λ y. (lookups-are-runs (peer_in me)).runs w (meant_all me m cs) j y) x
          (sym (traces-same me S j cs m w None len ready refl fit) ∙ e));
      begins = λ m before after j key limit. begins-there me S j key limit before after m None;
    }
