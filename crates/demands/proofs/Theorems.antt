-- The three demands, proved of every box that a start gave.
use Rattle.place.specs.Place.{place_of}
use Rattle.place.proofs.Places.{length-place_of}
use Rattle.peer.specs.declared.Peer.{Peer}
use Rattle.contacts.proofs.TwentyNearest.{nearest-are}
use Rattle.records_history.proofs.Holding.{held-is-found, judged-first, put-told}
use Rattle.records_history.proofs.Blind.{form-is-blind}
use Rattle.recipe_fields.proofs.Claims.{claims as recipe-fields}
use Rattle.records_history.proofs.Longer.{taken-whole, refused-before}
use Rattle.records_history.proofs.Claims.{highest-is-found}
use Rattle.message.proofs.Occurrences.{split-is-merged}
use Rattle.message.proofs.Claims.{reads-well}
use Rattle.round_trip.proofs.RoundTrip.{round_trip}
use Rattle.round_trip.proofs.Written.{written-is-read}
use Rattle.lookup_runs.proofs.Theorems as lookups
use Rattle.host_contacts.proofs.Claims as contacts
use Rattle.host_calls.specs.Hosts.{own_id, lookup_start}
use Rattle.answer_promises.proofs.Promised.{replies-read-back, answered-by-verdict, answered-by-fields, sent-as-typed, held-is-served, given-whole, refused-when-sent}
use Rattle.cutting.proofs.Claims.{several, several-plainly, split, one-receive}
use Rattle.node_promises.proofs.Doing.{message-done}
use Rattle.node_promises.proofs.Giving.{box-calls}
use Rattle.framing_back.proofs.Varints.{prefix-is-varint}
use Rattle.framing_back.proofs.Back.{frames-read-back, frames-arrive}
use Rattle.demands.specs.Box.{Box, Who, Turn, Ask, Fits, box, Own, Allowed, Good}
use Rattle.demands.specs.Demands.{First, Second, Third, Demands}
use Rattle.demands.proofs.Sound.{sound}
use Rattle.demands.proofs.Blunt.{blunt}
use Rattle.demands.proofs.Leaving.{refused-leaves}
use Rattle.demands.proofs.Hashing.{placed}
use Rattle.demands.proofs.Beginning.{begun-known}
use Rattle.demands.proofs.Never.{never-out-of-form}
use Rattle.demands.proofs.Starting.{begins}
use Rattle.demands.proofs.Queries.{queries}
use Rattle.demands.proofs.Hearing.{written, box-to-box}
use Rattle.demands.proofs.Accepting.{made, stays, lasts, outranked-by-none}
use Rattle.demands.proofs.Traced.{lookups-are-runs}

pub first : (me : Peer) → Own me → First me
first me w =
    record {
      refused = refused-leaves me;
      calls = box-calls;
      contacts = contacts.claims me w.fits w.long w.bytes;
      puts = put-told;
      lookups = begins me w;
      formed = never-out-of-form me w;
    }

pub second : (me : Peer) → Own me → Second me
unfolding lookup_start
second me w =
    record {
      reads = reads-well;
      split = split-is-merged;
      writes = round_trip;
      recipes = recipe-fields;
      readable = written-is-read;
      written = written;
      prefix = prefix-is-varint;
      frames = frames-read-back;
      arrives = frames-arrive Who Box Turn Ask (box me) (Allowed me) (Good me) Fits (sound me w);
      verdicts = answered-by-verdict me;
      replies = λ who h. replies-read-back me who w.roomed h;
      answers = answered-by-fields me;
      done = message-done;
      boxes = λ you u. box-to-box me you w u;
      queries = queries me w.fits;
      nearest = λ t key. nearest-are t (place_of key) (length-place_of key);
      hashed = λ s b cs f. placed me w s (begun-known me s b) cs f;
      lookup = λ t key limit s. lookups.claims t (own_id me) me.place key limit s;
      lookups = lookups-are-runs me;
    }

pub third : (me : Peer) → Own me → Third me
third me w =
    record {
      cut = several Who Box Turn Ask (box me) (Allowed me) (Good me) Fits (sound me w);
      once = one-receive Who Box Turn Ask (box me) (Allowed me) (Good me) Fits (sound me w);
      split = split Who Box Turn Ask (box me) (Allowed me) (Good me) Fits (sound me w);
      plain = several-plainly Who Box Turn Ask (box me) (Allowed me) (Good me) Fits (sound me w) (blunt me);
      stays = stays me w;
      lasts = lasts me w;
      offers = made me w;
      highest = outranked-by-none me w;
      found = held-is-found;
      history = highest-is-found;
      served = held-is-served me;
      judged = judged-first;
      sent = sent-as-typed me;
      blind = form-is-blind;
      whole = taken-whole;
      given_whole = given-whole me;
      refused_before = refused-before;
      refused_when_sent = refused-when-sent;
    }

pub demands : Demands
demands me w = (first me w, second me w, third me w)
