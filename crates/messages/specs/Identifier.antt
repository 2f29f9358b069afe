-- A 29-bit identifier holds, from the top: priority 3 bits, reserved 1, data page 1, PF 8, PS 8, source 8 (01,
-- "Identifier and message numbers"). So the source begins at 2^0, PS at 2^8, PF at 2^16, the data page at 2^24, the
-- reserved bit at 2^25 and the priority at 2^26.
use Rattle.std.specs.Prelude.{ℕ, ◌+◌, ◌*◌, ◌/◌, ◌%◌, cond, ltb}
use Rattle.messages.specs.declared.table.Row.{Row}
use Rattle.messages.specs.declared.identifier.Identifier.{Identifier}
use Rattle.messages.specs.Table.{pf_of, priority_of, broadcast_ps}

-- taken apart
unfoldable pub parts_of : ℕ → Identifier
parts_of id =
    record {
      priority = id / 0x400_0000 % 8;
      reserved = id / 0x200_0000 % 2;
      page = id / 0x100_0000 % 2;
      pf = id / 0x1_0000 % 256;
      ps = id / 0x100 % 256;
      source = id % 256;
    }

-- made; PF, PS and source are bytes, and the other parts take no more than their bits
unfoldable pub number_of : Identifier → ℕ
number_of p =
    p.priority % 8 * 0x400_0000
    + p.reserved % 2 * 0x200_0000
    + p.page % 2 * 0x100_0000
    + p.pf * 0x1_0000
    + p.ps * 0x100
    + p.source

-- PF 0 to 239 is targeted and PS is the target; 240 to 255 is broadcast, and PS is the row's
abbrev pub first_broadcast : ℕ
first_broadcast = 240

abbrev pub ps_part : Row → ℕ → ℕ
ps_part row target = cond (ltb (pf_of row) first_broadcast) target (broadcast_ps row)

-- the identifier of a message that we send: reserved and data page are clear
abbrev pub identifier_of : Row → ℕ → ℕ → ℕ
identifier_of row target source =
    number_of
    (record {
      priority = priority_of row;
      reserved = 0;
      page = 0;
      pf = pf_of row;
      ps = ps_part row target;
      source = source;
    })
