-- What stands before the messages of a link changes nothing of what a call changes.
use Rattle.std.proofs.Common.{◌≡◌, List, ℕ, ◌∷◌, ◌++◌, Option, None, Some, refl, ap}
use Rattle.io_edge.specs.Taken.{Appends}
use Rattle.link_edge.specs.Links.{Meaning, NoneFell, AfterPoll, AfterSend}
use Rattle.link_edge.specs.declared.answers.Polled.{Polled}
use Rattle.hub_run.specs.Ports.{told_first, tagged, far_tag, near_tag}

told : (tag : List ℕ) (old new : Option (List (List ℕ))) (piece : List (List ℕ)) → Appends old new piece → Appends (told_first tag old) (told_first tag new) piece
told tag None new piece e = ap (told_first tag) e
told tag (Some l) new piece e = ap (told_first tag) e

pub untold : (tag : List ℕ) (old new : Option (List (List ℕ))) (piece : List (List ℕ)) → Appends (told_first tag old) (told_first tag new) piece → Appends old new piece
untold tag None None piece e = refl
untold tag None (Some n) piece e = absurd (let bad : Some (tag ∷ n) ≡ None = e in cc)
untold tag (Some o) None piece e = absurd (let bad : None ≡ Some (tag ∷ (o ++ piece)) = e in cc)
untold tag (Some o) (Some n) piece e = let same : Some (tag ∷ n) ≡ Some (tag ∷ (o ++ piece)) = e in cc

fell : (tag : List ℕ) (old new : Meaning) → NoneFell old new → NoneFell (tagged tag old) (tagged tag new)
fell tag old new c = record { faults = c.faults; idles = c.idles; ends = c.ends }

pub poll_tagged : (tag : List ℕ) (old new : Meaning) (answer : Polled) → AfterPoll old answer new → AfterPoll (tagged tag old) answer (tagged tag new)
poll_tagged tag old new answer was = record {
  polls = was.polls;
  received = told tag old.received new.received _ was.received;
  sent = was.sent;
  counts = fell tag old new was.counts;
  failed = was.failed;
  nothing = was.nothing;
  closed = was.closed;
  shut = was.shut;
}

pub send_tagged : (tag : List ℕ) (old new : Meaning) (messages : List (List ℕ)) → AfterSend old messages new → AfterSend (tagged tag old) messages (tagged tag new)
send_tagged tag old new messages was = record {
  polls = was.polls;
  received = ap (told_first tag) was.received;
  sent = was.sent;
  counts = fell tag old new was.counts;
  shut = was.shut;
}

-- ---- the tags differ

pub far_is_near : (old : List (List ℕ)) (new : Option (List (List ℕ))) (piece : List (List ℕ)) → Appends (told_first far_tag (Some old)) (told_first near_tag new) piece → ⊥
far_is_near old None piece e = let bad : None ≡ Some (far_tag ∷ (old ++ piece)) = e in cc
far_is_near old (Some n) piece e = let bad : Some (near_tag ∷ n) ≡ Some (far_tag ∷ (old ++ piece)) = e in cc

pub near_is_far : (old : Option (List (List ℕ))) (new : List (List ℕ)) (piece : List (List ℕ)) → Appends (told_first near_tag old) (told_first far_tag (Some new)) piece → ⊥
near_is_far None new piece e = let bad : Some (far_tag ∷ new) ≡ None = e in cc
near_is_far (Some o) new piece e = let bad : Some (far_tag ∷ new) ≡ Some (near_tag ∷ (o ++ piece)) = e in cc
