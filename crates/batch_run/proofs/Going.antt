-- A batch in the middle: the lines so far, and what is left of it.
use Rattle.std.proofs.Common.{◌≡◌, ℕ, Bool, true, false, List, [], ◌∷◌, ◌++◌, map, Option, if◌then◌else◌, refl, sym, ap, ap₂, ◌∙◌, subst, append_assoc, append-nil}
use Rattle.std.specs.List.{flat_map}
use Rattle.std.proofs.lemmas.List.Concat.{flat_map-append}
use Rattle.io_edge.specs.Taken.{Appends, AppendsFront}
use Rattle.io_edge.specs.Waiting.{Passes}
use Rattle.io_edge.proofs.Passing.{none_passes, more_passes, front_passes, end_passes, end_front, given_up}
use Rattle.world_core.specs.World.{World}
use Rattle.machine_core.specs.declared.request.Asked.{Asked}
use Rattle.machine_core.specs.declared.reply.Reply.{Reply}
use Rattle.machine_core.specs.declared.turn.Notice.{Notice}
use Rattle.machine_core.specs.Reading.{Reader, IsReader}
use Rattle.machine_core.specs.Machine.{Machine, Answer, answer_of}
use Rattle.machine_core.specs.Journal.{Line, Replied, Noticed, Ran, behind, until_idle, is_bye, batch_from, closed, closing_lines, answered_lines}
use Rattle.req_json.specs.Asked.{asked}
use Rattle.batch_run.specs.Texts.{lines_of, requests_of, line_text, session_text}
use Rattle.batch_run.specs.Batch.{output_from, TakesBatch, TakesBatchFront}

-- these lines, of which a front was taken and the rest waits; and what is left puts out the rest of the whole
pub record Going (w : World) (start : Machine) (whole : List ℕ) (now : Machine) (left : List ℕ) (old new : Option (List ℕ)) (waits : List ℕ) : Type 0 where
  pub lines : List Line
  pub rest : (read : Reader) → IsReader read → behind lines (batch_from read w (requests_of left) now) ≡ batch_from read w (requests_of whole) start
  pub passed : Passes old new [] waits (session_text lines)

pub starts : (w : World) (m : Machine) (requests : List ℕ) (old : Option (List ℕ)) → Going w m requests m requests old old []
starts w m requests old = record { lines = []; rest = λ read reader. refl; passed = none_passes old old [] [] refl refl }

-- ---- one request, and those behind it

-- the same request over the same world, from the same state
pub ran_alike : (read : Reader) (w v : World) (a b : Asked) (m n : Machine) (x : Ran) → w ≡ v → a ≡ b → m ≡ n → x ≡ batch_from read w (a ∷ []) m → x ≡ batch_from read v (b ∷ []) n
ran_alike read w v a b m n x e f g h = h ∙ (λ i. batch_from read (e i) (f i ∷ []) (g i))

-- what a batch makes of its first request, and then of the others, if that was not the last
by_bye : (read : Reader) (w : World) (a : Answer) (others : List Asked) (u : Ran) (b : Bool)
    → behind (Replied a.reply ∷ []) (if b then record { after = a.after; lines = [] } else behind u.lines (batch_from read w others u.after))
    ≡ behind (behind (Replied a.reply ∷ []) (if b then record { after = a.after; lines = [] } else behind u.lines (record { after = u.after; lines = [] }))).lines
    (if b then record { after = (behind (Replied a.reply ∷ []) (if b then record { after = a.after; lines = [] } else behind u.lines (record { after = u.after; lines = [] }))).after; lines = [] }
    else batch_from read w others (behind (Replied a.reply ∷ []) (if b then record { after = a.after; lines = [] } else behind u.lines (record { after = u.after; lines = [] }))).after)
by_bye read w a others u true = refl
by_bye read w a others u false =
    ap (λ (l : List Line). record { after = (batch_from read w others u.after).after; lines = Replied a.reply ∷ (l ++ (batch_from read w others u.after).lines) }) (sym (append-nil u.lines))

batch_split : (read : Reader) (w : World) (a : Asked) (others : List Asked) (m : Machine)
    → batch_from read w (a ∷ others) m
    ≡ behind (batch_from read w (a ∷ []) m).lines
    (if is_bye (answer_of read w m a).reply.body then record { after = (batch_from read w (a ∷ []) m).after; lines = [] } else batch_from read w others (batch_from read w (a ∷ []) m).after)
batch_split read w a others m = by_bye read w (answer_of read w m a) others (until_idle w (answer_of read w m a).after) (is_bye (answer_of read w m a).reply.body)

behind_twice : (a b : List Line) (ran : Ran) → behind (a ++ b) ran ≡ behind a (behind b ran)
behind_twice a b ran = ap (λ lines. record { after = ran.after; lines = lines }) (append_assoc a b ran.lines)

same_reply : (r q : Reply) (xs ys : List Line) → Replied r ∷ xs ≡ Replied q ∷ ys → r ≡ q
same_reply r q xs ys e = cc

texts : (xs ys : List Line) → session_text (xs ++ ys) ≡ session_text xs ++ session_text ys
texts xs ys = flat_map-append line_text xs ys

-- the whole is what was put out, and the rest
whole_is : (read : Reader) (w : World) (start now : Machine) (whole left : List ℕ) (lines : List Line)
    → behind lines (batch_from read w (requests_of left) now) ≡ batch_from read w (requests_of whole) start
    → output_from read w start whole ≡ session_text lines ++ session_text (closed (batch_from read w (requests_of left) now))
whole_is read w start now whole left lines e =
    ap (λ (r : Ran). session_text (closed r)) (sym e)
    ∙ ap session_text (append_assoc lines (batch_from read w (requests_of left) now).lines (closing_lines (batch_from read w (requests_of left) now).after.heard))
    ∙ texts lines (closed (batch_from read w (requests_of left) now))

module _ (w : World) (start m after : Machine) (whole left rest line : List ℕ) (reply : Reply) (notice : Option Notice)
    (cut : lines_of left ≡ line ∷ lines_of rest)
    (ran : (read : Reader) → IsReader read → (let r : Ran = record { after = after; lines = answered_lines reply notice } in r) ≡ batch_from read w (asked line ∷ []) m) where
  left_by : (read : Reader) (b : Bool)
      → behind (answered_lines reply notice) (batch_from read w (requests_of (if b then [] else rest)) after)
      ≡ behind (answered_lines reply notice) (if b then record { after = after; lines = [] } else batch_from read w (requests_of rest) after)
  left_by read true = refl
  left_by read false = refl

  one_step : (read : Reader) → IsReader read → behind (answered_lines reply notice) (batch_from read w (requests_of (if is_bye reply.body then [] else rest)) after) ≡ batch_from read w (requests_of left) m
  one_step read reader =
      let e = ran read reader in
      let same : reply ≡ (answer_of read w m (asked line)).reply = same_reply _ _ _ _ (ap (λ (r : Ran). r.lines) e) in
      left_by read (is_bye reply.body)
      ∙ (λ j. behind (e j).lines (if is_bye (same j).body then record { after = (e j).after; lines = [] } else batch_from read w (requests_of rest) (e j).after))
      ∙ sym (batch_split read w (asked line) (requests_of rest) m)
      ∙ ap (λ (l : List (List ℕ)). batch_from read w (map asked l) m) (sym cut)

  pub goes_on : (old mid new : Option (List ℕ)) (waits now : List ℕ) → Passes mid new waits now (session_text (answered_lines reply notice)) → Going w start whole m left old mid waits
      → Going w start whole after (if is_bye reply.body then [] else rest) old new now
  goes_on old mid new waits now passes g = record {
    lines = g.lines ++ answered_lines reply notice;
    rest = λ read reader. behind_twice g.lines (answered_lines reply notice) _ ∙ ap (behind g.lines) (one_step read reader) ∙ g.rest read reader;
    passed = more_passes old mid new [] waits now (session_text g.lines) (session_text (answered_lines reply notice)) (session_text (g.lines ++ answered_lines reply notice)) (texts g.lines (answered_lines reply notice)) g.passed passes;
  }

  -- its lines were not taken to their end
  abbrev others : Reader → Ran
  others read = batch_from read w (requests_of (if is_bye reply.body then [] else rest)) after

  left_text : (read : Reader) → IsReader read → session_text (closed (batch_from read w (requests_of left) m)) ≡ session_text (answered_lines reply notice) ++ session_text (closed (others read))
  left_text read reader =
      ap (λ (r : Ran). session_text (closed r)) (sym (one_step read reader))
      ∙ ap session_text (append_assoc (answered_lines reply notice) (others read).lines (closing_lines (others read).after.heard))
      ∙ texts (answered_lines reply notice) (closed (others read))

  pub fails : (old mid new : Option (List ℕ)) (waits : List ℕ) → AppendsFront mid new (waits ++ session_text (answered_lines reply notice)) → Going w start whole m left old mid waits → TakesBatchFront w start whole old new
  fails old mid new waits h g read reader =
      subst (AppendsFront old new) (sym (whole_is read w start m whole left g.lines (g.rest read reader) ∙ ap (λ l. session_text g.lines ++ l) (left_text read reader)))
      (front_passes old mid new [] waits (session_text g.lines) (session_text (answered_lines reply notice)) (session_text (closed (others read))) _ refl g.passed h)

-- ---- the end

pub gives_up : (w : World) (start now : Machine) (whole left : List ℕ) (old new : Option (List ℕ)) (waits : List ℕ) → Going w start whole now left old new waits → TakesBatchFront w start whole old new
gives_up w start now whole left old new waits g read reader =
    subst (AppendsFront old new) (sym (whole_is read w start now whole left g.lines (g.rest read reader)))
    (given_up old new [] waits (session_text g.lines) (session_text (closed (batch_from read w (requests_of left) now))) g.passed)

module _ (w : World) (start now : Machine) (whole left : List ℕ) (old mid new : Option (List ℕ)) (waits : List ℕ) (g : Going w start whole now left old mid waits) (done : lines_of left ≡ []) where
  last : (read : Reader) → session_text (closed (batch_from read w (requests_of left) now)) ≡ session_text (closing_lines now.heard)
  last read = ap (λ (l : List (List ℕ)). session_text (closed (batch_from read w (map asked l) now))) done

  pub ended : Appends mid new (waits ++ session_text (closing_lines now.heard)) → TakesBatch w start whole old new
  ended h read reader =
      subst (Appends old new) (sym (whole_is read w start now whole left g.lines (g.rest read reader) ∙ ap (λ l. session_text g.lines ++ l) (last read)))
      (end_passes old mid new [] waits (session_text g.lines) (session_text (closing_lines now.heard)) g.passed h)

  pub ended_front : AppendsFront mid new (waits ++ session_text (closing_lines now.heard)) → TakesBatchFront w start whole old new
  ended_front h read reader =
      subst (AppendsFront old new) (sym (whole_is read w start now whole left g.lines (g.rest read reader) ∙ ap (λ l. session_text g.lines ++ l) (last read)))
      (end_front old mid new [] waits (session_text g.lines) (session_text (closing_lines now.heard)) g.passed h)
