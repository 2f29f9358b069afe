-- The one table of message rows (01, "Identifier and message numbers"). A row holds PF, priority, length and PS.
use Rattle.std.specs.Prelude.{ℕ, List, [], ◌∷◌, get_or}
use Rattle.messages.specs.declared.table.Row.{Row}

-- the columns of a row by name
abbrev pub pf_of : Row → ℕ
pf_of row = row.0

abbrev pub priority_of : Row → ℕ
priority_of row = row.1

-- of a received message the least length
abbrev pub length_of : Row → ℕ
length_of row = row.2

-- the PS of a broadcast
abbrev pub broadcast_ps : Row → ℕ
broadcast_ps row = row.3

-- to us: PF and least length; the priority is ignored, and PS is our address
abbrev pub to_us : ℕ → ℕ → Row
to_us pf least = record { 0 = pf; 1 = 0; 2 = least; 3 = 0 }

-- "Every frame we send has 8 data bytes"
abbrev pub sent_length : ℕ
sent_length = 8

-- us to a station or to the source of a query: PF and priority, with 8 data bytes; PS is its address
abbrev pub to_target : ℕ → ℕ → Row
to_target pf priority = record { 0 = pf; 1 = priority; 2 = sent_length; 3 = 0 }

-- broadcast: PF FA, priority 7, and PS
abbrev pub broadcast : ℕ → Row
broadcast ps = record { 0 = 0xfa; 1 = 7; 2 = sent_length; 3 = ps }

-- Station to us, PF hex and least length
abbrev pub CIM : Row
CIM = to_us 0x26 3

abbrev pub CVM : Row
CVM = to_us 0x01 1

abbrev pub CMP : Row
CMP = to_us 0x08 8

abbrev pub CRM : Row
CRM = to_us 0x0a 1

abbrev pub CCS : Row
CCS = to_us 0x12 5

abbrev pub CST : Row
CST = to_us 0x16 3

abbrev pub CEM : Row
CEM = to_us 0x1f 3

-- Any node to us
abbrev pub ACV : Row
ACV = to_us 0x1b 8

abbrev pub ACT : Row
ACT = to_us 0x1c 8

-- Us to station, PF and priority
abbrev pub EIM : Row
EIM = to_target 0x27 6

abbrev pub EVM : Row
EVM = to_target 0x02 7

abbrev pub ECP : Row
ECP = to_target 0x06 7

abbrev pub ERM : Row
ERM = to_target 0x09 4

abbrev pub ECR : Row
ECR = to_target 0x10 6

abbrev pub ECS : Row
ECS = to_target 0x11 7

abbrev pub ESM : Row
ESM = to_target 0x13 6

abbrev pub EST : Row
EST = to_target 0x15 4

abbrev pub EDM : Row
EDM = to_target 0x1a 6

abbrev pub EEM : Row
EEM = to_target 0x1e 2

-- Broadcast PF FA, priority 7, PS
abbrev pub PS : Row
PS = broadcast 0x20

abbrev pub CVS : Row
CVS = broadcast 0x21

abbrev pub CTS : Row
CTS = broadcast 0x22

abbrev pub FWS : Row
FWS = broadcast 0x23

abbrev pub EC : Row
EC = broadcast 0x27

-- The first groups of the two kinds of cell answer, priority 7 ("Broadcasts and cell answers")
abbrev pub VOLTAGES : Row
VOLTAGES = to_target 0x31 7

abbrev pub TEMPERATURES : Row
TEMPERATURES = to_target 0x81 7

-- All of them, in this order
abbrev pub rows : List Row
rows =
    CIM ∷ CVM ∷ CMP ∷ CRM ∷ CCS ∷ CST ∷ CEM ∷ ACV ∷ ACT
    ∷ EIM ∷ EVM ∷ ECP ∷ ERM ∷ ECR ∷ ECS ∷ ESM ∷ EST ∷ EDM ∷ EEM
    ∷ PS ∷ CVS ∷ CTS ∷ FWS ∷ EC ∷ VOLTAGES ∷ TEMPERATURES ∷ []

-- The row at a place; no message has the row of zeros that stands past the end
abbrev pub row_at : ℕ → Row
row_at place = get_or rows place (record { 0 = 0; 1 = 0; 2 = 0; 3 = 0 })
