-- Chains of line numbers, and the lines that a reduction uses.
use Rattle.std.specs.Prelude.{ℕ, zero, suc, ◌-◌, List, [], ◌∷◌, ◌++◌, map, length, take, drop, ℤ, pos, neg_ℤ, Some, None, Ok, Err, Option}
use Rattle.loads.specs.declared.Load.{Load}
use Rattle.loads.specs.Exchange.{swapped}
use Rattle.worksheet.specs.declared.rule.Rule.{Rule}
use Rattle.rewriting.specs.Reducing.{fitting, sized}
use Rattle.tables.specs.declared.stride.Stride.{Stride}

-- the chain that cites each line forward
abbrev pub forward : List ℕ → List ℤ
forward ns = map pos ns

-- a chain followed from its end to its start
abbrev pub undo : List ℤ → List ℤ
undo [] = []
undo (z ∷ zs) = undo zs ++ (neg_ℤ z ∷ [])

-- the step by a rule that fits, if the new counts are in range
abbrev pub stride_by : Load → Rule → Option Stride
stride_by a r = elim (sized (swapped a r.left r.right)) [ Ok y ↦ Some (record { line = r.line; load = y }) | Err e ↦ None ]

-- the step by the first rule that fits
abbrev pub stride : List Rule → Load → Option Stride
stride t a = elim (fitting t a) [ None ↦ None | Some r ↦ stride_by a r ]

-- the line numbers of the first n steps from a load, or of all where they are fewer
abbrev pub trail : List Rule → ℕ → Load → List ℕ
trail t zero a = []
trail t (suc n) a = elim (stride t a) [ None ↦ [] | Some s ↦ s.line ∷ trail t n s.load ]

-- a row with a chain written over its front
abbrev pub over_front : List ℤ → List ℤ → List ℤ
over_front zs row = zs ++ drop (length zs) row

-- a row with a chain written over its back
abbrev pub over_back : List ℤ → List ℤ → List ℤ
over_back zs row = take (length row - length zs) row ++ zs
