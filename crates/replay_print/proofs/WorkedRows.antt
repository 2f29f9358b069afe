-- Lines as docs/REPLAY.md writes them, computed. Assumes nothing.
use mathlib.Core.Path.{◌≡◌, refl}
use mathlib.Core.List.{[], ◌∷◌}
use Rattle.session_states.specs.declared.states.State.TheVariants as state
use Rattle.replay_print.specs.Quoted.{quoted}
use Rattle.replay_print.specs.Text.{digits_up_to, decimal_of, padded_of, hex_of, hexes_of}
use Rattle.replay_print.specs.Answers.{numbered_line, settings_line, written_text, write_line}
use Rattle.replay_print.specs.Frames.{time_text, frame_text, sent_line, sent_lines, sent_text}
use Rattle.replay_print.specs.Standings.{standing_of, standing_text, standing_line}

pub settings_row : settings_line 0 ≡ quoted "settings 0\n"
unfolding numbered_line decimal_of digits_up_to
settings_row = refl

pub write_none_row : write_line 17 0 [] ≡ quoted "write 17 0 -\n"
unfolding write_line written_text decimal_of digits_up_to
write_none_row = refl

pub write_row : write_line 0 2 (0x0a ∷ 0xf4 ∷ 0 ∷ []) ≡ quoted "write 0 2 0AF4\n"
unfolding write_line written_text decimal_of digits_up_to hexes_of hex_of
write_row = refl

-- the frame 182756F4 of tick 31, at 1.55 s
pub sent_row :
    sent_text 31 (0xf4 ∷ 0x56 ∷ 0x27 ∷ 0x18 ∷ 8 ∷ 1 ∷ 2 ∷ 3 ∷ 4 ∷ 5 ∷ 6 ∷ 7 ∷ 0xff ∷ [])
    ≡ quoted "(0000000001.550000) can0 182756F4#01020304050607FF\n"
unfolding sent_text sent_lines sent_line time_text padded_of decimal_of digits_up_to frame_text hexes_of hex_of
sent_row = refl

pub idle_row : standing_line (standing_of state.Idle 0x56) ≡ quoted "state Idle\n"
unfolding standing_line standing_of standing_text
idle_row = refl

pub offered_row : standing_line (standing_of state.Offered 0x56) ≡ quoted "state Offered 56\n"
unfolding standing_line standing_of standing_text hex_of
offered_row = refl
