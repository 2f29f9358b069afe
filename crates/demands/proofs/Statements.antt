-- Every statement of specs/Statements.antt and its theorem, in the statements' order. Assumes nothing.
use Rattle.demands.specs.Statements.{WhatEndsASession, EachEndsASession, EstGone, EimGone, EcpGone, ErmGone, EarlyAcknowledgement, WhatEndsACharge, EachEndsACharge, EstEachTick, ClosingEnds, WhatATickDoes, WhatATickSends, WhatARefusedTickDoes, WhatATickDoesInIdle, Over, EachOpens, ReplayedAcknowledgement, CvmTaken, CmpTaken, CrmTaken, WhatBeginsACharge, TheLastCmpCounts, NoRequestAbove, NoRequestAboveTheStation, NeverAboveTheMaximum, NotAboveTheStation, WhatAMessageDoes, Undisturbed, Unreached, Unmoved, Within801, EightHundredAreNotEnough, SilentStation, CimHoldsNothing, CrmHoldsNothing, ReachesCharging, FromCimToCharging, NoSooner, EightAreEnough, Demand1, TheNumbers, Demand2, AnyCallsCanBeMade, AnAcknowledgedStop, TheWorkedRows, ThePapersNumbers}
use Rattle.demands.proofs.OfCalls as call
use Rattle.demands.proofs.Acknowledged as stop
use Rattle.demands.proofs.TickOfCalls as ticks
use Rattle.demands.proofs.OfRuns as runs
use Rattle.demands.proofs.RunsMade as made
use Rattle.demands.proofs.Promised as promised
use Rattle.demands.proofs.Numbers as table
use Rattle.demands.proofs.BeginsCharge as begins
use Rattle.demands.proofs.OfferSent as offers
use Rattle.demands.proofs.Closing as closing
use Rattle.demands.proofs.WorkedRows as rows
use Rattle.demands.proofs.PaperNumbers as numbers

pub what_ends_a_session : WhatEndsASession
what_ends_a_session = call.what_ends_a_session

pub each_ends_a_session : EachEndsASession
each_ends_a_session = call.each_ends_a_session

pub est_gone : EstGone
est_gone = call.est_gone

pub eim_gone : EimGone
eim_gone = call.eim_gone

pub ecp_gone : EcpGone
ecp_gone = call.ecp_gone

pub erm_gone : ErmGone
erm_gone = call.erm_gone

pub early_acknowledgement : EarlyAcknowledgement
early_acknowledgement = call.early_acknowledgement

pub what_ends_a_charge : WhatEndsACharge
what_ends_a_charge = call.what_ends_a_charge

pub each_ends_a_charge : EachEndsACharge
each_ends_a_charge = call.each_ends_a_charge

pub est_each_tick : EstEachTick
est_each_tick = closing.est_each_tick

pub closing_ends : ClosingEnds
closing_ends = closing.closing_ends

pub what_a_tick_does : WhatATickDoes
what_a_tick_does = ticks.what_a_tick_does

pub what_a_tick_sends : WhatATickSends
what_a_tick_sends = call.what_a_tick_sends

pub what_a_refused_tick_does : WhatARefusedTickDoes
what_a_refused_tick_does = call.what_a_refused_tick_does

pub what_a_tick_does_in_idle : WhatATickDoesInIdle
what_a_tick_does_in_idle = call.what_a_tick_does_in_idle

pub over : Over
over = call.over

pub each_opens : EachOpens
each_opens = call.each_opens

pub replayed_acknowledgement : ReplayedAcknowledgement
replayed_acknowledgement = call.replayed_acknowledgement

pub cvm_taken : CvmTaken
cvm_taken = call.cvm_taken

pub cmp_taken : CmpTaken
cmp_taken = call.cmp_taken

pub crm_taken : CrmTaken
crm_taken = call.crm_taken

pub what_begins_a_charge : WhatBeginsACharge
what_begins_a_charge = begins.what_begins_a_charge

pub the_last_cmp_counts : TheLastCmpCounts
the_last_cmp_counts = begins.the_last_cmp_counts

pub no_request_above : NoRequestAbove
no_request_above = runs.no_request_above

pub no_request_above_the_station : NoRequestAboveTheStation
no_request_above_the_station = offers.no_request_above_the_station

pub never_above_the_maximum : NeverAboveTheMaximum
never_above_the_maximum = runs.never_above_the_maximum

pub not_above_the_station : NotAboveTheStation
not_above_the_station = begins.not_above_the_station

pub what_a_message_does : WhatAMessageDoes
what_a_message_does = call.what_a_message_does

pub undisturbed : Undisturbed
undisturbed = runs.undisturbed

pub unreached : Unreached
unreached = call.unreached

pub unmoved : Unmoved
unmoved = runs.unmoved

pub within_801 : Within801
within_801 = runs.within_801

pub eight_hundred_are_not_enough : EightHundredAreNotEnough
eight_hundred_are_not_enough = made.eight_hundred_are_not_enough

pub silent_station : SilentStation
silent_station = runs.silent_station

pub cim_holds_nothing : CimHoldsNothing
cim_holds_nothing = runs.cim_holds_nothing

pub crm_holds_nothing : CrmHoldsNothing
crm_holds_nothing = runs.crm_holds_nothing

pub reaches_charging : ReachesCharging
reaches_charging = runs.reaches_charging

pub from_cim_to_charging : FromCimToCharging
from_cim_to_charging = runs.from_cim_to_charging

pub no_sooner : NoSooner
no_sooner = runs.no_sooner

pub eight_are_enough : EightAreEnough
eight_are_enough = made.eight_are_enough

pub demand_1 : Demand1
demand_1 = runs.demand_1

pub the_numbers : TheNumbers
the_numbers = table.the_numbers

pub demand_2 : Demand2
demand_2 = runs.demand_2

pub any_calls_can_be_made : AnyCallsCanBeMade
any_calls_can_be_made = promised.any_calls_can_be_made

pub an_acknowledged_stop : AnAcknowledgedStop
an_acknowledged_stop = stop.an_acknowledged_stop

pub the_worked_rows : TheWorkedRows
the_worked_rows = rows.worked_rows

pub the_papers_numbers : ThePapersNumbers
the_papers_numbers = numbers.paper_numbers
