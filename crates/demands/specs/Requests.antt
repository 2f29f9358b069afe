-- "Request R is the smaller of maximum current and the station's maximum", and after each Rest it is halved (01,
-- "Session by tick"). What a session asks for, in tenths of an ampere, for `never_above_the_maximum`; and what is asked
-- of the station by the bytes of the ECRs sent, for `no_request_above`.
use Rattle.std.specs.Prelude.{ℕ, ◌+◌, ◌≤◌, ◌≡◌, Bool, true, List, [], ◌∷◌, eqb}
use Rattle.buffers.specs.Words.{word_at}
use Rattle.messages.specs.Table.{pf_of, ECR}
use Rattle.frames.specs.declared.Frame.{Frame}
use Rattle.settings.specs.declared.Settings.{Settings}
use Rattle.session_states.specs.declared.phases.Phase.{Phase}
use Rattle.session_states.specs.declared.phases.Phase.TheVariants.{Drive, Rest, Hold}
use Rattle.session_states.specs.declared.states.State.{State}
use Rattle.session_states.specs.declared.states.State.TheVariants.{Idle, Offered, Unverified, Parameters, Ready, Charging, Stopping, Error}
use Rattle.demands.specs.FrameKinds.{pf_in}

-- R, as Drive asks it and as Rest keeps it to be halved; Hold asks for a voltage
unfoldable pub request_of : Phase → ℕ
request_of (Drive request cycle time) = request.0
request_of (Rest request cycle time) = request.0
request_of (Hold time) = 0

unfoldable pub request_in : State → ℕ
request_in Idle = 0
request_in Offered = 0
request_in Unverified = 0
request_in Parameters = 0
request_in (Ready accepted maximum) = 0
request_in (Charging p) = request_of p
request_in (Stopping acknowledged est) = 0
request_in Error = 0

-- ---- as sent
-- by the PF of its identifier a frame is an ECR
unfoldable pub is_ecr : Frame → Bool
is_ecr f = eqb (pf_in f) (pf_of ECR)

-- "ECR voltage, raw current, mode": the two words of its data
abbrev pub voltage_word : Frame → ℕ
voltage_word f = word_at f.bytes 0

abbrev pub current_word : Frame → ℕ
current_word f = word_at f.bytes 2

-- what it asks is within the settings: the current, which is 4000 minus the word, is 0 or more and at most the maximum
-- current, and the voltage at most the maximum pack voltage
pub record AsksWithin (x : Settings) (f : Frame) : Type 0 where
  pub not_below : current_word f ≤ 4000
  pub current : 4000 ≤ current_word f + x.limits.current.0
  pub voltage : voltage_word f ≤ x.limits.pack.0

-- a law of each ECR among the frames
unfoldable pub EachEcr : (Frame → Type 0) → List Frame → Type 0
EachEcr Q [] = Unit {0}
EachEcr Q (f ∷ fs) = (is_ecr f ≡ true → Q f) × EachEcr Q fs

abbrev pub AllAskWithin : Settings → List Frame → Type 0
AllAskWithin x fs = EachEcr (AsksWithin x) fs
