-- That a station can follow the handshake: frames of the station 56 to us, F4, and two runs of which
-- `from_cim_to_charging` says that they come to Charging: one of eight accepted ticks and no more than it takes, and
-- one in which the station repeats itself and others send in between. Assumes nothing.
use Prim.Native.Nat.{ℕ, ◌+◌, ◌<◌}
use native.Mathlib.Omega.{arith}
use mathlib.Core.Path.{◌≡◌, refl, ap}
use mathlib.Core.Bool.{true, false, false≢true}
use mathlib.Core.List.{List, [], ◌∷◌}
use lib.IntN.{pos}
use Rattle.messages.specs.Identifier.{parts_of}
use Rattle.settings.specs.declared.Settings.{Settings}
use Rattle.settings.specs.Range.{within, good_stations, in_range, limits_in_range}
use Rattle.charge_messages.specs.declared.Offer.{Offer}
use Rattle.charge_messages.specs.declared.ChargeMessage.TheVariants.{Cim, Cvm, Cmp, Crm, Cst}
use Rattle.charge_messages.specs.Content.{content_of}
use Rattle.session_by_message.specs.Offer.{offered_tenths, accepted_of}
use Rattle.controller.specs.Start.{fresh_of}
use Rattle.refusals.specs.Frame.{not_can, flags_set, not_for_us, bad_source, listed}
use Rattle.session_states.specs.Limits.{silence_limit}
use Rattle.demands.specs.Machine.{Call, Receive, Tick}
use Rattle.demands.specs.After.{charge_in, after_all, is_query, query_in}
use Rattle.demands.specs.Apart.{from_station, reaches, reaching}
use Rattle.demands.specs.Silent.{is_accepted_tick, ticks_in}
use Rattle.refusals.specs.Frame.{long_enough, message_in}
use Rattle.demands.specs.Says.{Says}
use Rattle.demands.specs.Reach.{charging_with, Stretch, UntilCvm, UntilVerified, UntilCmp, UntilCrm, besides}
use Rattle.demands.specs.Reach.{Passing, Follows, Passes, Ticks, Speaks, Delays, VerifiesLater, Verifies, Offers, Starts}
use Rattle.demands.proofs.Silent.{zeros, quiet_readings, such_a_tick}
use Rattle.demands.proofs.Reach.{from_cim_to_charging}
use Rattle.demands.proofs.ReachFrames.{says_one}

-- settings that a record may hold: 60.0 V and 100.0 A at the most, stations 56 and 57
abbrev pub ours : Settings
ours =
    record {
      own = 0xf4;
      limits =
          record {
            cell = record { 0 = 365 };
            current = record { 0 = 1000 };
            pack = record { 0 = 600 };
            temperature = record { 0 = 180 };
          };
      stations = record { count = 2; first = 0x56; second = 0x57; third = 0; fourth = 0 };
      versions = record { first = 0; second = 0; third = 0; fourth = 0; fifth = 0 };
    }

pub settings_good : in_range ours ≡ true
unfolding in_range limits_in_range within good_stations
settings_good = refl

-- a CMP of 0 V to 100.0 V and 0 A to 200.0 A, and one of 0 V to 50.0 V, which the yes rule does not accept
abbrev pub offer : Offer
offer = record { highest = record { 0 = 1000 }; lowest = record { 0 = 0 }; most = record { 0 = 2000 }; least = record { 0 = 4000 } }

abbrev low_offer : Offer
low_offer = record { highest = record { 0 = 500 }; lowest = record { 0 = 0 }; most = record { 0 = 2000 }; least = record { 0 = 4000 } }

abbrev pub cim_data : List ℕ
cim_data = 0x01 ∷ 0x01 ∷ 0x00 ∷ []

abbrev cmp_data : List ℕ
cmp_data = 0xe8 ∷ 0x03 ∷ 0x00 ∷ 0x00 ∷ 0xd0 ∷ 0x07 ∷ 0xa0 ∷ 0x0f ∷ []

abbrev pub cst_data : List ℕ
cst_data = 0x00 ∷ 0x00 ∷ 0xaa ∷ []

abbrev low_data : List ℕ
low_data = 0xf4 ∷ 0x01 ∷ 0x00 ∷ 0x00 ∷ 0xd0 ∷ 0x07 ∷ 0xa0 ∷ 0x0f ∷ []

yes_rule : accepted_of ours offer ≡ true
unfolding accepted_of offered_tenths
yes_rule = refl

low_refused : accepted_of ours low_offer ≡ false
unfolding accepted_of offered_tenths
low_refused = refl

pub is_listed : listed 0x56 ours.stations ≡ true
unfolding listed
is_listed = refl

-- ---- the frames say what they are to say
record AllSay : Type 0 where
  cim : Says ours 0x56 Cim 0x1826_f456 cim_data
  cvm_00 : Says ours 0x56 (Cvm false) 0x1801_f456 (0x00 ∷ [])
  cvm_aa : Says ours 0x56 (Cvm true) 0x1801_f456 (0xaa ∷ [])
  cmp : Says ours 0x56 (Cmp offer) 0x1808_f456 cmp_data
  low : Says ours 0x56 (Cmp low_offer) 0x1808_f456 low_data
  crm_ff : Says ours 0x56 (Crm false) 0x180a_f456 (0xff ∷ [])
  crm_aa : Says ours 0x56 (Crm true) 0x180a_f456 (0xaa ∷ [])
  cst : Says ours 0x56 (Cst true) 0x1816_f456 cst_data

all_say : AllSay
unfolding message_in long_enough not_can flags_set not_for_us bad_source parts_of content_of
all_say =
    record {
      cim = record { checks = refl; source = refl; content = refl };
      cvm_00 = record { checks = refl; source = refl; content = refl };
      cvm_aa = record { checks = refl; source = refl; content = refl };
      cmp = record { checks = refl; source = refl; content = refl };
      low = record { checks = refl; source = refl; content = refl };
      crm_ff = record { checks = refl; source = refl; content = refl };
      crm_aa = record { checks = refl; source = refl; content = refl };
      cst = record { checks = refl; source = refl; content = refl };
    }

pub says_cst : Says ours 0x56 (Cst true) 0x1816_f456 cst_data
says_cst = all_say.cst

pub says_cim : Says ours 0x56 Cim 0x1826_f456 cim_data
says_cim = all_say.cim

-- ---- the calls
abbrev pub cim : Call
cim = Receive 0x1826_f456 cim_data

abbrev cvm_aa : Call
cvm_aa = Receive 0x1801_f456 (0xaa ∷ [])

abbrev cvm_00 : Call
cvm_00 = Receive 0x1801_f456 (0x00 ∷ [])

abbrev cmp : Call
cmp = Receive 0x1808_f456 cmp_data

abbrev low_cmp : Call
low_cmp = Receive 0x1808_f456 low_data

abbrev crm_ff : Call
crm_ff = Receive 0x180a_f456 (0xff ∷ [])

abbrev crm_aa : Call
crm_aa = Receive 0x180a_f456 (0xaa ∷ [])

abbrev tick : Call
tick = Tick quiet_readings (330 ∷ []) (pos 20 ∷ []) (zeros 117)

-- after the CIM that opened the session: eight ticks
unfoldable pub eight : List Call
eight = tick ∷ cvm_aa ∷ tick ∷ tick ∷ tick ∷ tick ∷ tick ∷ tick ∷ cmp ∷ tick ∷ crm_aa ∷ []

on : (k : Stretch) (n b : ℕ) (es : List Call) → b < silence_limit → Follows ours 0x56 offer k (n + 1) (b + 1) es
    → Follows ours 0x56 offer k n b (tick ∷ es)
on k n b es l f = Ticks {b = b} such_a_tick.0 such_a_tick.1 (omega (arith, l)) f

follows_eight : Follows ours 0x56 offer UntilCvm 0 0 (reaching 0x56 eight)
unfolding eight reaching reaches from_station is_query query_in parts_of
follows_eight =
    on UntilCvm 0 0 _ (omega arith)
    (Verifies all_say.cvm_aa (omega arith)
    (on UntilCmp 0 0 _ (omega arith)
    (on UntilCmp 1 1 _ (omega arith)
    (on UntilCmp 2 2 _ (omega arith)
    (on UntilCmp 3 3 _ (omega arith)
    (on UntilCmp 4 4 _ (omega arith)
    (on UntilCmp 5 5 _ (omega arith)
    (Offers all_say.cmp yes_rule (omega arith) (on UntilCrm 0 0 _ (omega arith) (Starts all_say.crm_aa (omega arith)))))))))))

-- from a fresh controller, by the CIM and what follows
charges : (es : List Call) → Follows ours 0x56 offer UntilCvm 0 0 (reaching 0x56 es)
    → (after_all (fresh_of ours) (cim ∷ es)).session ≡ charging_with ours 0x56 offer
unfolding fresh_of
charges es f = from_cim_to_charging (fresh_of ours) 0x56 0x1826_f456 cim_data offer es refl is_listed says_cim f

-- eight accepted ticks are enough, and fewer never are (`no_sooner`, proofs/ReachLeast.antt)
pub eight_are_enough : (ticks_in (cim ∷ eight) ≡ 8) × ((after_all (fresh_of ours) (cim ∷ eight)).session ≡ charging_with ours 0x56 offer)
unfolding eight ticks_in is_accepted_tick
eight_are_enough = (rw such_a_tick.0, charges eight follows_eight)

-- ---- a station that repeats itself, and others on the bus
-- another listed station's CIM and CEM; the station's own cell query, and its CST to another address, 55
abbrev cim_57 : Call
cim_57 = Receive 0x1826_f457 cim_data

abbrev cem_57 : Call
cem_57 = Receive 0x181f_f457 (0x00 ∷ 0x00 ∷ 0xaa ∷ [])

abbrev query : Call
query = Receive 0x181b_f456 (zeros 8)

abbrev cst_to_55 : Call
cst_to_55 = Receive 0x1816_5556 (0x00 ∷ 0x00 ∷ 0xaa ∷ [])

-- from the opening CIM on: a CVM AA before any EIM; CVM 00, and 00 again before AA; CRM AA and CMP before their time; a
-- CMP that the yes rule does not accept; then the last CMP, CRM AA before its ERM, CRM FF, and the CRM AA that counts
pub busy : List Call
busy =
    cvm_aa ∷ cim_57 ∷ cim ∷ tick ∷ cem_57
    ∷ cvm_00 ∷ cim ∷ tick ∷ query ∷ cvm_00
    ∷ cvm_aa ∷ crm_aa ∷ cmp ∷ cvm_aa ∷ tick ∷ tick ∷ tick ∷ cim_57 ∷ tick ∷ tick ∷ tick ∷ low_cmp ∷ tick ∷ crm_ff
    ∷ cmp ∷ crm_aa ∷ tick ∷ crm_ff ∷ cst_to_55 ∷ tick ∷ crm_aa ∷ cem_57 ∷ []

-- a CIM after Offered, and a frame to another address
cim_passes : Passing ours 0x56 cim
unfolding Passing
cim_passes m h = says_one ours 0x56 m Cim 0x1826_f456 cim_data h says_cim

cst_passes : Passing ours 0x56 cst_to_55
unfolding Passing message_in not_can flags_set not_for_us parts_of charge_in
cst_passes m h = absurd (false≢true (ap charge_in h.checks))

-- what of it reaches the session
follows_crm : Follows ours 0x56 offer UntilCrm 0 0 (crm_aa ∷ tick ∷ crm_ff ∷ cst_to_55 ∷ tick ∷ crm_aa ∷ [])
unfolding besides
follows_crm =
    Speaks all_say.crm_aa refl
    (on UntilCrm 0 0 _ (omega arith)
    (Speaks all_say.crm_ff refl (Passes cst_passes (on UntilCrm 1 0 _ (omega arith) (Starts all_say.crm_aa (omega arith))))))

follows_cmp : Follows ours 0x56 offer UntilCmp 0 0
    (crm_aa ∷ cmp ∷ cvm_aa ∷ tick ∷ tick ∷ tick ∷ tick ∷ tick ∷ tick ∷ low_cmp ∷ tick ∷ crm_ff
    ∷ cmp ∷ crm_aa ∷ tick ∷ crm_ff ∷ cst_to_55 ∷ tick ∷ crm_aa ∷ [])
unfolding besides
follows_cmp =
    Speaks all_say.crm_aa refl
    (Speaks all_say.cmp refl
    (Speaks all_say.cvm_aa refl
    (on UntilCmp 0 0 _ (omega arith)
    (on UntilCmp 1 1 _ (omega arith)
    (on UntilCmp 2 2 _ (omega arith)
    (on UntilCmp 3 3 _ (omega arith)
    (on UntilCmp 4 4 _ (omega arith)
    (on UntilCmp 5 5 _ (omega arith)
    (Speaks all_say.low refl
    (on UntilCmp 6 0 _ (omega arith) (Speaks all_say.crm_ff refl (Offers all_say.cmp yes_rule (omega arith) follows_crm))))))))))))

follows_busy : Follows ours 0x56 offer UntilCvm 0 0 (reaching 0x56 busy)
unfolding busy reaching reaches from_station is_query query_in parts_of besides
follows_busy =
    Speaks all_say.cvm_aa refl
    (Speaks says_cim refl
    (on UntilCvm 0 0 _ (omega arith)
    (Delays all_say.cvm_00 (omega arith)
    (Passes cim_passes (on UntilVerified 0 0 _ (omega arith) (Speaks all_say.cvm_00 refl (VerifiesLater all_say.cvm_aa follows_cmp)))))))

-- Charging all the same
pub busy_charges : (after_all (fresh_of ours) (cim ∷ busy)).session ≡ charging_with ours 0x56 offer
busy_charges = charges busy follows_busy
