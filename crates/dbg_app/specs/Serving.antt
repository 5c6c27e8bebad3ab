-- What a service asks for, and how it ends.
use Rattle.std.specs.Prelude.{◌≡◌, ◌≢◌, ◌⊎◌, ℕ, ◌==◌, ◌&&◌, not, Bool, List, [], ◌∷◌, Option, Some, None, Result, Ok, Err, Vec, length}
use Rattle.std.specs.declared.alloc.Global.{Global}
use Rattle.bv_core.specs.Value.{Bits}
use Rattle.listen.specs.Pairs.{Heard}
use Rattle.design_core.specs.declared.Ports.{Ports}
use Rattle.stim_text.specs.Rows.{rows_of}
use Rattle.stim_text.specs.declared.StimFault.{StimFault}
use Rattle.stim_text.specs.declared.StimFault.TheVariants.{NoMemory}
use Rattle.design_judge.specs.Judgement.{ArePortsOf}
use Rattle.design_judge.specs.Judging.{JudgesStimulus}
use Rattle.link_edge.specs.Links.{Meaning}
use Rattle.duo_run.specs.declared.served.Served.{Served}
use Rattle.hub_core.specs.declared.served.HubServed.{HubServed}
use Rattle.show_net.specs.Over.{Over, Shows}
use Rattle.serve_net.specs.Members.{next_of}
use Rattle.serve_net.specs.Service.{ServesAll, ServesSome}
use Rattle.hub_net.specs.AtOnce.{ServesAtOnce, ServesSomeAtOnce}
use Rattle.io_edge.specs.Taken.{Appends}
use Rattle.project_read.specs.Asking.{AsksSome}
use Rattle.dbg_app.specs.Command.{Command, rest_names}
use Rattle.dbg_app.specs.Names.{AsksBehind}
use Rattle.dbg_app.specs.Asked.{command_as}
use Rattle.dbg_app.specs.Answers.{Answer, Contents, HoldsDesign, HoldsRows, Asks}
use Rattle.dbg_app.specs.Outcome as run
use Rattle.dbg_app.specs.Judged.{AsksOwn, HasText, Judges, asked_behind, judged_status}
use Rattle.dbg_app.specs.Offer.{Offer}
use Rattle.dbg_app.specs.declared.judge.Judged.{Judged}
use Rattle.dbg_app.specs.declared.offer.Offer as code
use Rattle.dbg_app.specs.declared.offer.Manner.{Manner}
use Rattle.dbg_app.specs.declared.offer.Manner.TheVariants.{InTurn, AtOnce}
use Rattle.dbg_app.specs.declared.shown.Shown as code_shown
use Rattle.dbg_app.specs.declared.shown.Shown.TheVariants as shown

-- without where the words lie in memory
abbrev pub offer_as : code.Offer → Offer
offer_as offer = record { files = command_as offer.command; manner = offer.manner; address = offer.address.now; count = offer.count }

-- ---- what the files hold

-- what is shown is what the files hold: the design, how many of its signals are driven, and the rows of the stimulus for its ports
pub record HoldsOver (files : Contents) (command : Command) (over : Over) : Type 0 where
  pub design : HoldsDesign files command over.design
  pub driven : over.driven ≡ length design.accepted.1.pairs
  pub ports : Ports
  pub are : ArePortsOf over.design ports
  pub rows : HoldsRows files ports command.stimulus (Ok over.rows)
  pub mode : over.mode ≡ command.mode

-- ---- how a service ends

-- the statuses of a service
abbrev pub is_serve_status : ℕ → Bool
is_serve_status status = run.is_status status && not (status == 6)

-- clients were served in their manner, so often, and all of it was told: there is a hub only where they share a session, and then no connection
abbrev pub ServesWhole : {L : Type 0} → (L → Meaning) → Over → List (List Heard) → Manner → ℕ → Option ℕ → Option ℕ → ℕ → ℕ → List (Served L) → Option (HubServed L) → Option (List ℕ) → Option (List ℕ) → Type 0
ServesWhole meant over sets InTurn count left_old left_new faults_old faults_new served hub old new =
    ServesAll meant over sets count left_old left_new faults_old faults_new served old new × (hub ≡ None)
ServesWhole meant over sets AtOnce count left_old left_new faults_old faults_new served hub old new =
    ServesAtOnce meant over (next_of sets) count left_old left_new faults_old faults_new hub old new × (served ≡ [])

-- or at most so often, and a front of it was told
abbrev pub ServesFrontOf : {L : Type 0} → (L → Meaning) → Over → List (List Heard) → Manner → ℕ → Option ℕ → Option ℕ → ℕ → ℕ → List (Served L) → Option (HubServed L) → Option (List ℕ) → Option (List ℕ) → ℕ → Type 0
ServesFrontOf meant over sets InTurn count left_old left_new faults_old faults_new served hub old new status =
    ServesSome meant over sets count left_old left_new faults_old faults_new served old new status × (hub ≡ None)
ServesFrontOf meant over sets AtOnce count left_old left_new faults_old faults_new served hub old new status =
    ServesSomeAtOnce meant over (next_of sets) count left_old left_new faults_old faults_new hub old new status × (served ≡ [])

-- nobody was served, and the door is what it was
pub record AsksNone {L : Type 0} (left_old left_new : Option ℕ) (faults_old faults_new : ℕ) (served : List (Served L)) (hub : Option (HubServed L)) : Type 0 where
  pub none : served ≡ []
  pub no_hub : hub ≡ None
  pub left : left_new ≡ left_old
  pub faults : faults_new ≡ faults_old

-- what the files hold was served, so often, and all of it was told
pub record ServesOffer {L : Type 0} (meant : L → Meaning) (files : Contents) (offer : Offer) (sets : List (List Heard)) (left_old left_new : Option ℕ) (faults_old faults_new : ℕ) (served : List (Served L)) (hub : Option (HubServed L)) (old new : Option (List ℕ)) : Type 0 where
  pub over : Over
  pub holds : HoldsOver files offer.files over
  pub all : ServesWhole meant over sets offer.manner offer.count left_old left_new faults_old faults_new served hub old new

-- the door was asked for no link, and nothing or a front of the line of a refusal was taken; or a part was served, and a front of its lines was taken
pub record RefusesFront {L : Type 0} (files : Contents) (offer : Offer) (left_old left_new : Option ℕ) (faults_old faults_new : ℕ) (served : List (Served L)) (hub : Option (HubServed L)) (old new : Option (List ℕ)) : Type 0 where
  pub none : AsksNone left_old left_new faults_old faults_new served hub
  pub taken : run.TakesSome [] files offer.files old new

pub record ServesPart {L : Type 0} (meant : L → Meaning) (files : Contents) (offer : Offer) (sets : List (List Heard)) (left_old left_new : Option ℕ) (faults_old faults_new : ℕ) (served : List (Served L)) (hub : Option (HubServed L)) (old new : Option (List ℕ)) (status : ℕ) : Type 0 where
  pub over : Over
  pub holds : HoldsOver files offer.files over
  pub some : ServesFrontOf meant over sets offer.manner offer.count left_old left_new faults_old faults_new served hub old new status

abbrev pub ServesFront : {L : Type 0} → (L → Meaning) → Contents → Offer → List (List Heard) → Option ℕ → Option ℕ → ℕ → ℕ → List (Served L) → Option (HubServed L) → Option (List ℕ) → Option (List ℕ) → ℕ → Type 0
ServesFront meant files offer sets left_old left_new faults_old faults_new served hub old new status =
    RefusesFront files offer left_old left_new faults_old faults_new served hub old new ⊎ ServesPart meant files offer sets left_old left_new faults_old faults_new served hub old new status

-- where the files ask for an answer, and neither count has risen, the status is its status, and the whole line of a refusal was taken; or memory
-- ran out
abbrev pub CompletesOffer : Contents → Offer → ℕ → Option (List ℕ) → Option (List ℕ) → Type 0 → Type 0 → Type 0
CompletesOffer files offer status old new read_rose write_rose =
    (answer : Answer) → Asks [] files offer.files answer → (read_rose → ⊥) → (write_rose → ⊥)
    → ((status ≡ answer.status) × (status ≢ 0 → run.TakesAnswer files offer.files answer old new)) ⊎ (status ≡ 9)

-- the files that were asked for: those of the design up to the one that is refused, where one is, and else all of them and the stimulus; none
-- where the words are no service
pub record AsksOffer (told : Option Contents) (offer : Offer) (status : ℕ) (old new : Option (List (List ℕ))) : Type 0 where
  pub source : status ≡ 3 → (count : ℕ) × AsksSome told offer.files.source old new count
  pub all : (status ≡ 0) ⊎ (status ≡ 4) → AsksBehind told offer.files.source (rest_names offer.files) old new

abbrev pub AsksByStatus : Option Contents → Option Offer → ℕ → Option (List (List ℕ)) → Option (List (List ℕ)) → Type 0
AsksByStatus told None status old new = Appends old new []
AsksByStatus told (Some offer) status old new = AsksOffer told offer status old new

-- ---- what was judged

-- the names that were asked for before it was judged so, behind the files of the design
abbrev pub asked_show : List ℕ → code_shown.Shown → List (List ℕ)
asked_show stimulus (shown.Refused j) = asked_behind (Some stimulus) None j
asked_show stimulus (shown.Accepted service) = stimulus ∷ []

-- and all of them, from the files of the design on
abbrev pub AsksShown : Option Contents → Command → Option (List (List ℕ)) → Option (List (List ℕ)) → code_shown.Shown → Type 0
AsksShown told command old new (shown.Refused j) = AsksOwn told command old new j
AsksShown told command old new (shown.Accepted service) = AsksBehind told command.source (rest_names command) old new

-- the text of a stimulus was judged: it is accepted for these ports, or refused
abbrev pub FindsRows : Option (List ℕ) → Ports → Result (Vec ℕ Global) StimFault → Type 0
FindsRows file ports (Ok text) = file ≡ Some text.items
FindsRows file ports (Err fault) = JudgesStimulus file ports (Err fault)

abbrev pub AreRows : Ports → Result (Vec ℕ Global) StimFault → Type 0
AreRows ports (Ok text) = (rows : List (List Bits)) × (rows_of ports text.items ≡ Ok rows)
AreRows ports (Err fault) = fault ≢ NoMemory

-- a refusal, as its files ask, or what is shown is what they hold
abbrev pub JudgesOffer : Contents → Command → code_shown.Shown → Type 0
JudgesOffer files command (shown.Refused judged) = Judges files command judged
JudgesOffer files command (shown.Accepted service) = (over : Over) → Shows service over → HoldsOver files command over

-- the refusal is one of a source or of a stimulus, and has a line; and what is accepted shows something
pub record IsRefusal (judged : Judged) : Type 0 where
  pub text : HasText judged
  pub status : (judged_status judged ≡ 3) ⊎ (judged_status judged ≡ 4)

abbrev pub IsShown : code_shown.Shown → Type 0
IsShown (shown.Refused judged) = IsRefusal judged
IsShown (shown.Accepted service) = (over : Over) × Shows service over
