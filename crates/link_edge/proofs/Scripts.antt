-- A poll of a link in memory is a poll of a link: it adds what its step gives.
use Rattle.std.proofs.Common.{◌≡◌, ◌+◌, ℕ, zero, suc, List, [], ◌∷◌, ◌++◌, Option, None, Some, length, min, take, slice_get, arith, refl, sym, ◌∙◌, ap, append_assoc}
use Rattle.std.specs.List.{flat_map}
use Rattle.std.proofs.lemmas.List.{append-nil}
use Rattle.std.proofs.lemmas.List.Concat.{flat_map-append}
use Rattle.io_edge.specs.Taken.{Appends}
use Rattle.link_edge.specs.declared.step.Step.{Step}
use Rattle.link_edge.specs.declared.step.Step.TheVariants as step
use Rattle.link_edge.specs.declared.answers.Polled.{Polled}
use Rattle.link_edge.specs.declared.answers.Polled.TheVariants.{Message, Nothing, Closed, Failed, NoMemory}
use Rattle.link_edge.specs.Links.{AfterPoll, NoneFell, polled, message_in, messages_in}
use Rattle.link_edge.specs.MemoryLinks.{LinkInMemory, poll_in, polls_of, meaning_of, answer_to, next_answer, AnswersPoll, stepped, after_poll}

-- what a step adds, if there is one
abbrev added : Option Step → List (Option (List ℕ))
added None = []
added (Some s) = poll_in s

added_as_answered : (s : Option Step) → polled (answer_to s) ≡ added s
added_as_answered None = refl
added_as_answered (Some (step.Message text)) = refl
added_as_answered (Some step.Nothing) = refl
added_as_answered (Some step.Close) = refl
added_as_answered (Some step.Fault) = refl

nothing_taken : (k : ℕ) → flat_map poll_in (take zero []) ≡ flat_map poll_in (take k []) ++ added (slice_get [] k)
nothing_taken zero = refl
nothing_taken (suc k) = refl

one_further : (script : List Step) (k : ℕ) → flat_map poll_in (take (min (k + 1) (length script)) script) ≡ flat_map poll_in (take k script) ++ added (slice_get script k)
one_further [] k =
    let e : min (k + 1) (length {A = Step} []) ≡ zero = omega arith in
    ap (λ n. flat_map poll_in (take n [])) e ∙ nothing_taken k
one_further (s ∷ script) zero =
    let e : min (0 + 1) (length (s ∷ script)) ≡ suc zero = omega arith in
    ap (λ n. flat_map poll_in (take n (s ∷ script))) e ∙ append-nil (poll_in s)
one_further (s ∷ script) (suc k) =
    let e : min (suc k + 1) (length (s ∷ script)) ≡ suc (min (k + 1) (length script)) = omega arith in
    ap (λ n. flat_map poll_in (take n (s ∷ script))) e ∙ ap (λ ps. poll_in s ++ ps) (one_further script k) ∙ sym (append_assoc (poll_in s) (flat_map poll_in (take k script)) (added (slice_get script k)))

-- a step further gives what its answer adds
polls_grow : (link : LinkInMemory) (answer : Polled) → next_answer link ≡ answer → polls_of (stepped link) ≡ polls_of link ++ polled answer
polls_grow link answer e =
    one_further link.script link.taken ∙ ap (λ ps. polls_of link ++ ps) (sym (added_as_answered (slice_get link.script link.taken)) ∙ ap polled e)

grown : (link : LinkInMemory) (answer : Polled) → next_answer link ≡ answer → Appends (Some (polls_of link)) (Some (polls_of (stepped link))) (polled answer)
grown link answer e = ap Some (polls_grow link answer e)

heard : (link : LinkInMemory) (answer : Polled) → next_answer link ≡ answer → Appends (Some (messages_in (polls_of link))) (Some (messages_in (polls_of (stepped link)))) (messages_in (polled answer))
heard link answer e = ap Some (ap messages_in (polls_grow link answer e) ∙ flat_map-append message_in (polls_of link) (polled answer))

pub poll_kept : (link : LinkInMemory) (answer : Polled) → NoneFell (meaning_of link) (meaning_of (after_poll answer link)) → AnswersPoll link answer → AfterPoll (meaning_of link) answer (meaning_of (after_poll answer link))
poll_kept link (Message text) counts e = record {
  polls = grown link (Message text) e;
  received = heard link (Message text) e;
  sent = refl;
  counts = counts;
  failed = λ is. absurd cc;
  nothing = λ is. absurd cc;
  closed = λ is. absurd cc;
  shut = refl;
}
poll_kept link Nothing counts e = record {
  polls = grown link Nothing e;
  received = heard link Nothing e;
  sent = refl;
  counts = counts;
  failed = λ is. absurd cc;
  nothing = λ is. omega arith;
  closed = λ is. absurd cc;
  shut = refl;
}
poll_kept link Closed counts e = record {
  polls = grown link Closed e;
  received = heard link Closed e;
  sent = refl;
  counts = counts;
  failed = λ is. absurd cc;
  nothing = λ is. absurd cc;
  closed = λ is. omega arith;
  shut = refl;
}
poll_kept link Failed counts e = record {
  polls = grown link Failed e;
  received = heard link Failed e;
  sent = refl;
  counts = counts;
  failed = λ is. omega arith;
  nothing = λ is. absurd cc;
  closed = λ is. absurd cc;
  shut = refl;
}
poll_kept link NoMemory counts e = record {
  polls = ap Some (sym (append-nil (polls_of link)));
  received = ap Some (sym (append-nil (messages_in (polls_of link))));
  sent = refl;
  counts = counts;
  failed = λ is. absurd cc;
  nothing = λ is. absurd cc;
  closed = λ is. absurd cc;
  shut = refl;
}
