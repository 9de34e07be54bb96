use Rattle.std.proofs.Common.{◌≡◌, drop, map, Some}
use Rattle.script_text.specs.Scripts.{read_lines, start, state_seen}
use Rattle.script_text.proofs.parse.parse_lines.Given as goal

abbrev pub invariant-loop-index : goal.invariant-loop-index
invariant-loop-index l =
    read_lines l.index (Some (state_seen l.progress)) (map (λ line. line.now) (drop l.index l.lines))
    ≡ read_lines 0 (Some start) (map (λ line. line.now) l.lines)
