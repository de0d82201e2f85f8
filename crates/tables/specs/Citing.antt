-- Line numbers that a chain can cite.
use Rattle.std.specs.Prelude.{Bool, true, ◌&&◌, List, [], ◌∷◌, nat_le}
use Rattle.worksheet.specs.declared.rule.Rule.{Rule}

-- no rule names a line above 544: 32 equations and 512 added lines
abbrev pub citable : List Rule → Bool
citable [] = true
citable (r ∷ t) = nat_le r.line 544 && citable t
