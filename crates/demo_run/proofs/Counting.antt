-- A batch in the middle: the stops so far, their counts, and what is left of it.
use Rattle.std.proofs.Common.{◌≡◌, ◌≤◌, ◌<◌, ◌+◌, ℕ, Bool, true, false, List, [], ◌∷◌, ◌++◌, length, map, Option, if◌then◌else◌, refl, sym, ap, ◌∙◌, subst, append_assoc, append-nil, length-append, arith}
use Rattle.std.specs.Prelude.{filter, sum_by}
use Rattle.std.proofs.lemmas.List.Elements.{filter-append}
use Rattle.std.proofs.lemmas.List.Sums.{sum_by-append}
use Rattle.world_core.specs.World.{World}
use Rattle.machine_core.specs.declared.request.Asked.{Asked}
use Rattle.machine_core.specs.declared.reply.Reply.{Reply}
use Rattle.machine_core.specs.declared.turn.Motion.TheVariants.{Idle}
use Rattle.machine_core.specs.declared.turn.Notice.{Notice}
use Rattle.machine_core.specs.Positions.{end_place}
use Rattle.machine_core.specs.Reading.{Reader, IsReader}
use Rattle.machine_core.specs.Machine.{Machine, answer_of}
use Rattle.machine_core.specs.Journal.{Line, Replied, Ran, is_bye, batch_from, answered_lines}
use Rattle.machine_core.proofs.Readers.{some_reader}
use Rattle.req_json.specs.Asked.{asked}
use Rattle.batch_run.specs.Texts.{lines_of, requests_of}
use Rattle.demo_run.specs.Stops.{Reached, batch_stops, is_forward, is_backward, thread_count, forward_count, backward_count, thread_sum}
use Rattle.demo_run.specs.Answers.{answered_stops, Counted, Adds}
use Rattle.demo_run.specs.declared.tally.Counts.{Counts}
use Rattle.demo_run.proofs.Batches.{answered_is, stops_split, idle_again}

-- ---- counts

module _ (a b : List Reached) where
  forward_more : forward_count (a ++ b) ≡ forward_count a + forward_count b
  forward_more = ap (λ (l : List Reached). length l) (filter-append is_forward a b) ∙ length-append (filter is_forward a) (filter is_forward b)

  backward_more : backward_count (a ++ b) ≡ backward_count a + backward_count b
  backward_more = ap (λ (l : List Reached). length l) (filter-append is_backward a b) ∙ length-append (filter is_backward a) (filter is_backward b)

  threads_more : thread_sum (a ++ b) ≡ thread_sum a + thread_sum b
  threads_more =
      ap (sum_by thread_count) (filter-append is_forward a b)
      ∙ sum_by-append thread_count (filter is_forward a) (filter is_forward b)

  counted_more : (c d : Counts) → Counted a c → Adds c b d → Counted (a ++ b) d
  counted_more c d h g = record {
    forward = g.forward ∙ ap (λ n. n + forward_count b) h.forward ∙ sym forward_more;
    backward = g.backward ∙ ap (λ n. n + backward_count b) h.backward ∙ sym backward_more;
    threads = g.threads ∙ ap (λ n. n + thread_sum b) h.threads ∙ sym threads_more;
  }

-- ---- the batch

pub record Counting (w : World) (start : Machine) (whole : List ℕ) (now : Machine) (left : List ℕ) (counts : Counts) : Type 0 where
  pub stops : List Reached
  pub rest : (read : Reader) → IsReader read → stops ++ batch_stops read w (requests_of left) now ≡ batch_stops read w (requests_of whole) start
  pub counted : Counted stops counts
  pub idle : now.motion ≡ Idle
  pub few : counts.forward + counts.backward + length left ≤ length whole

pub begins : (w : World) (m : Machine) (requests : List ℕ) (counts : Counts) → m.motion ≡ Idle → Counted [] counts → Counting w m requests m requests counts
begins w m requests counts idle none =
    record { stops = []; rest = λ read reader. refl; counted = none; idle = idle; few = let f : counts.forward ≡ 0 = none.forward in let b : counts.backward ≡ 0 = none.backward in omega (arith, f, b) }

-- there is room for one more
pub room : (w : World) (start m : Machine) (whole left rest : List ℕ) (counts : Counts) → length rest < length left → Counting w start whole m left counts → length whole ≤ 16777216 → counts.forward + counts.backward < 16777216
room w start m whole left rest counts shorter g short = let h = g.few in omega (arith, h, short, shorter)

-- the same request over the same world, from the same state
pub ran_alike : (read : Reader) (w v : World) (a b : Asked) (m n : Machine) (x : Ran) → w ≡ v → a ≡ b → m ≡ n → x ≡ batch_from read w (a ∷ []) m → x ≡ batch_from read v (b ∷ []) n
ran_alike read w v a b m n x e f g h = h ∙ (λ i. batch_from read (e i) (f i ∷ []) (g i))

same_reply : (r q : Reply) (xs ys : List Line) → Replied r ∷ xs ≡ Replied q ∷ ys → r ≡ q
same_reply r q xs ys e = cc

module _ (w : World) (start m after : Machine) (whole left rest line : List ℕ) (reply : Reply) (notice : Option Notice) (counts more : Counts)
    (cut : lines_of left ≡ line ∷ lines_of rest) (shorter : length rest < length left)
    (ran : (read : Reader) → IsReader read → (let r : Ran = record { after = after; lines = answered_lines reply notice } in r) ≡ batch_from read w (asked line ∷ []) m)
    (adds : Adds counts (answered_stops reply.body notice) more) (one : more.forward + more.backward ≤ counts.forward + counts.backward + 1) where
  behind_by : (read : Reader) (b : Bool) → batch_stops read w (requests_of (if b then [] else rest)) after ≡ (if b then [] else batch_stops read w (requests_of rest) after)
  behind_by read true = refl
  behind_by read false = refl

  one_step : m.motion ≡ Idle → (read : Reader) → IsReader read
      → answered_stops reply.body notice ++ batch_stops read w (requests_of (if is_bye reply.body then [] else rest)) after ≡ batch_stops read w (requests_of left) m
  one_step idle read reader =
      let e = ran read reader in
      let same : reply ≡ (answer_of read w m (asked line)).reply = same_reply _ _ _ _ (ap (λ (r : Ran). r.lines) e) in
      let told = answered_is read w m (asked line) idle after reply notice e in
      ap (λ l. answered_stops reply.body notice ++ l) (behind_by read (is_bye reply.body))
      ∙ (λ j. told j ++ (if is_bye (same j).body then [] else batch_stops read w (requests_of rest) (e j).after))
      ∙ sym (stops_split read w (asked line) (requests_of rest) m)
      ∙ ap (λ (l : List (List ℕ)). batch_stops read w (map asked l) m) (sym cut)

  less : (b : Bool) → length (if b then [] else rest) ≤ length rest
  less true = omega arith
  less false = omega arith

  pub goes_on : m.place ≤ end_place w → Counting w start whole m left counts → Counting w start whole after (if is_bye reply.body then [] else rest) more
  goes_on within g = record {
    stops = g.stops ++ answered_stops reply.body notice;
    rest = λ read reader. append_assoc g.stops (answered_stops reply.body notice) _ ∙ ap (λ l. g.stops ++ l) (one_step g.idle read reader) ∙ g.rest read reader;
    counted = counted_more g.stops (answered_stops reply.body notice) counts more g.counted adds;
    idle = ap (λ (r : Ran). r.after.motion) (ran some_reader.0 some_reader.1) ∙ idle_again some_reader.0 w m (asked line) g.idle within;
    few = let l = less (is_bye reply.body) in let h = g.few in omega (arith, l, h, one, shorter);
  }

-- the counts of the whole, where nothing is left
pub counted : (w : World) (start now : Machine) (whole left : List ℕ) (counts : Counts) → Counting w start whole now left counts → lines_of left ≡ [] → (read : Reader) → IsReader read → Counted (batch_stops read w (requests_of whole) start) counts
counted w start now whole left counts g done read reader =
    let none : batch_stops read w (requests_of left) now ≡ [] = ap (λ (l : List (List ℕ)). batch_stops read w (map asked l) now) done in
    subst (λ (l : List Reached). Counted l counts) (sym (append-nil g.stops) ∙ ap (λ l. g.stops ++ l) (sym none) ∙ g.rest read reader) g.counted
