-- The session's ends as a link: what each call changes, and that an end is known by its ring.
use Rattle.std.proofs.Common.{◌≡◌, ℕ, Bool, List, [], ◌∷◌, ◌++◌, Option, None, Some, arith, refl, sym, ◌∙◌, ap, ap₂, append_assoc, append-nil}
use Rattle.std.specs.declared.alloc.Global.{Global}
use Rattle.io_edge.specs.Taken.{Appends}
use Rattle.rtrb.specs.declared.AnyItems.{AnyItems}
use Rattle.rtrb.specs.declared.producer.Producer.{Producer}
use Rattle.rtrb.specs.declared.consumer.Consumer.{Consumer}
use Rattle.rtrb.specs.Ring.{sent, received, SameProducer, SameConsumer}
use Rattle.link_edge.specs.declared.answers.Polled.TheVariants as polled
use Rattle.link_edge.specs.Links.{AfterPoll, AfterSend}
use Rattle.link_pump.specs.declared.cause.Cause.{Cause}
use Rattle.link_pump.specs.declared.cause.Cause.TheVariants.{Closed, Failed, NoMemory}
use Rattle.link_pump.specs.declared.rings.FromLink.{FromLink}
use Rattle.link_pump.specs.declared.rings.FromLink.TheVariants.{Message, LinkOver}
use Rattle.link_pump.specs.declared.rings.ToLink.{ToLink}
use Rattle.link_pump.specs.declared.rings.ToLink.TheVariants.{Line, ClientOver}
use Rattle.link_pump.specs.Rings.{heard_in, lines_in}
use Rattle.link_pump.specs.Names.{place_of, ring_of_consumer, ring_of_producer}
use Rattle.link_pump.specs.Ends.{over_as, meaning_of}
use Rattle.link_pump.proofs.Ringing.{heard_message, heard_mark, lines_line, lines_left}
use denote.RawPtr.{Ptr, block_ptr, null_ptr}

abbrev Messages : Type 0
Messages = Consumer FromLink Global AnyItems

abbrev Lines : Type 0
Lines = Producer ToLink Global AnyItems

-- ---- an end is known by its ring

same_place : (p q : Ptr) → place_of p ≡ place_of q → p ≡ q
same_place null_ptr null_ptr e = refl
same_place null_ptr (block_ptr b o) e = absurd (let bad : [] ≡ b ∷ o ∷ [] = e in cc)
same_place (block_ptr b o) null_ptr e = absurd (let bad : b ∷ o ∷ [] ≡ [] = e in cc)
same_place (block_ptr b o) (block_ptr c p) e = let x : b ≡ c = cc in let y : o ≡ p = cc in ap₂ block_ptr x y

same_heap : (a b : Global) → a ≡ b
same_heap a b = refl

-- a ring's names stand before what else is told
pub record SameFront (xs ys : List (List ℕ)) (same : Type 0) : Type 0 where
  pub ring : same
  pub rest : xs ≡ ys

pub told_messages : (a b : Messages) (xs ys : List (List ℕ)) → Some (ring_of_consumer b ++ xs) ≡ Some (ring_of_consumer a ++ ys) → SameFront xs ys (SameConsumer a b)
told_messages a b xs ys e =
    let words : place_of b.end.words ≡ place_of a.end.words = cc in
    let slots : place_of b.end.slots ≡ place_of a.end.slots = cc in
    let n : b.end.names.0 ≡ a.end.names.0 = cc in
    let v : b.end.names.1.0 ≡ a.end.names.1.0 = cc in
    let u : b.end.names.1.1 ≡ a.end.names.1.1 = cc in
    let capacity : b.capacity ≡ a.capacity = cc in
    record {
      ring = ((same_place _ _ words, same_place _ _ slots, (λ i. (n i, (v i, u i))), same_heap _ _), capacity);
      rest = cc;
    }

pub told_lines : (a b : Lines) (xs ys : List (List ℕ)) → Some (ring_of_producer b ++ xs) ≡ Some (ring_of_producer a ++ ys) → SameFront xs ys (SameProducer a b)
told_lines a b xs ys e =
    let words : place_of b.end.words ≡ place_of a.end.words = cc in
    let slots : place_of b.end.slots ≡ place_of a.end.slots = cc in
    let n : b.end.names.0 ≡ a.end.names.0 = cc in
    let v : b.end.names.1.0 ≡ a.end.names.1.0 = cc in
    let u : b.end.names.1.1 ≡ a.end.names.1.1 = cc in
    let capacity : b.capacity ≡ a.capacity = cc in
    record {
      ring = ((same_place _ _ words, same_place _ _ slots, (λ i. (n i, (v i, u i))), same_heap _ _), capacity);
      rest = cc;
    }

-- ---- what a call changes

ring_stays : (a b : Messages) → SameConsumer a b → ring_of_consumer b ≡ ring_of_consumer a
ring_stays a b same = rw (same.0.0, same.0.1, same.0.2, same.1) refl

ring_stays_too : (a b : Lines) → SameProducer a b → ring_of_producer b ≡ ring_of_producer a
ring_stays_too a b same = rw (same.0.0, same.0.1, same.0.2, same.1) refl

heard_on : (a b : Messages) (more : List (List ℕ)) → SameConsumer a b → heard_in (received b) ≡ heard_in (received a) ++ more
    → Appends (Some (ring_of_consumer a ++ heard_in (received a))) (Some (ring_of_consumer b ++ heard_in (received b))) more
heard_on a b more same e =
    ap Some (ap₂ (λ r l. r ++ l) (ring_stays a b same) e ∙ sym (append_assoc (ring_of_consumer a) (heard_in (received a)) more))

pub message_polled : (a b : Messages) (lines : Lines) (over : Option Cause) (idles : ℕ) (shut : Bool) (t : List ℕ) → SameConsumer a b → received b ≡ received a ++ Message t ∷ []
    → AfterPoll (meaning_of a lines over idles shut) (polled.Message t) (meaning_of b lines over idles shut)
message_polled a b lines over idles shut t same e = record {
  polls = refl;
  received = heard_on a b (t ∷ []) same (ap heard_in e ∙ heard_message (received a) t);
  sent = refl;
  counts = record { faults = omega arith; idles = omega arith; ends = omega arith };
  failed = λ is. absurd cc;
  nothing = λ is. absurd cc;
  closed = λ is. absurd cc;
  shut = refl;
}

pub mark_polled : (a b : Messages) (lines : Lines) (over : Option Cause) (idles : ℕ) (shut : Bool) (c : Cause) → over ≡ None → SameConsumer a b → received b ≡ received a ++ LinkOver c ∷ []
    → AfterPoll (meaning_of a lines over idles shut) (over_as c) (meaning_of b lines (Some c) idles shut)
mark_polled a b lines over idles shut c free same e = rw free (by c (heard_on a b [] same (ap heard_in e ∙ heard_mark (received a) c ∙ sym (append-nil (heard_in (received a))))))
  where
    by : (d : Cause) → Appends (Some (ring_of_consumer a ++ heard_in (received a))) (Some (ring_of_consumer b ++ heard_in (received b))) []
        → AfterPoll (meaning_of a lines None idles shut) (over_as d) (meaning_of b lines (Some d) idles shut)
    by Closed heard = record {
      polls = refl;
      received = heard;
      sent = refl;
      counts = record { faults = omega arith; idles = omega arith; ends = omega arith };
      failed = λ is. absurd cc;
      nothing = λ is. absurd cc;
      closed = λ is. omega arith;
      shut = refl;
    }
    by Failed heard = record {
      polls = refl;
      received = heard;
      sent = refl;
      counts = record { faults = omega arith; idles = omega arith; ends = omega arith };
      failed = λ is. omega arith;
      nothing = λ is. absurd cc;
      closed = λ is. absurd cc;
      shut = refl;
    }
    by NoMemory heard = record {
      polls = refl;
      received = heard;
      sent = refl;
      counts = record { faults = omega arith; idles = omega arith; ends = omega arith };
      failed = λ is. absurd cc;
      nothing = λ is. absurd cc;
      closed = λ is. absurd cc;
      shut = refl;
    }

pub line_pushed : (messages : Messages) (a b : Lines) (over : Option Cause) (idles : ℕ) (shut : Bool) (t : List ℕ) → SameProducer a b → sent b ≡ sent a ++ Line t ∷ []
    → AfterSend (meaning_of messages a over idles shut) (t ∷ []) (meaning_of messages b over idles shut)
line_pushed messages a b over idles shut t same e = record {
  polls = refl;
  received = refl;
  sent = ap Some (ap₂ (λ r l. r ++ l) (ring_stays_too a b same) (ap lines_in e ∙ lines_line (sent a) t) ∙ sym (append_assoc (ring_of_producer a) (lines_in (sent a)) (t ∷ [])));
  counts = record { faults = omega arith; idles = omega arith; ends = omega arith };
  shut = refl;
}

-- the mark that the client has left changes nothing of what is told
pub left_pushed : (messages : Messages) (a b : Lines) (over : Option Cause) (idles : ℕ) (shut : Bool) → SameProducer a b → sent b ≡ sent a ++ ClientOver ∷ []
    → meaning_of messages b over idles shut ≡ meaning_of messages a over idles shut
left_pushed messages a b over idles shut same e =
    let told : ring_of_producer b ++ lines_in (sent b) ≡ ring_of_producer a ++ lines_in (sent a) = ap₂ (λ r l. r ++ l) (ring_stays_too a b same) (ap lines_in e ∙ lines_left (sent a)) in
    ap (λ l. record (meaning_of messages a over idles shut) { sent = Some l }) told
