use native.Mathlib.Omega.{arith}
use mathlib.Core.Path.{refl}
use Rattle.parser.specs.Expanding.{size_low, rule_low, expand_full, expand_no_room, expand_on}
use Rattle.parser.proofs.Grounds.expand.Goals as goal

pub overflow_mul-row : goal.overflow_mul-row
overflow_mul-row c = omega (arith, rule_low c.requires _ _ c.rule_for-rule.ensures refl)

pub overflow_add-row : goal.overflow_add-row
overflow_add-row c = omega (arith, rule_low c.requires _ _ c.rule_for-rule.ensures refl)

pub overflow_add-row-2 : goal.overflow_add-row-2
overflow_add-row-2 c = omega (arith, rule_low c.requires _ _ c.rule_for-rule.ensures refl)

pub offset_bounds-rows-row : goal.offset_bounds-rows-row
offset_bounds-rows-row c = omega (arith, rule_low c.requires _ _ c.rule_for-rule.ensures refl)

pub bounds-rows-row : goal.bounds-rows-row
bounds-rows-row c = omega (arith, rule_low c.requires _ _ c.rule_for-rule.ensures refl, c.requires.look_up.pushes.rows_size)

pub overflow_add-at : goal.overflow_add-at
overflow_add-at c = omega (arith, size_low c.requires _ _ c.rule_for-rule.ensures c.from-size.ensures, c.requires.height)

pub returns-then-at-size-gt256 : goal.returns-then-at-size-gt256
returns-then-at-size-gt256 c = expand_full c.requires _ _ c.rule_for-rule.ensures c.from-size.ensures _ c.if-at-size-gt256.true

pub returns-then-rules-listed : goal.returns-then-rules-listed
returns-then-rules-listed c = expand_no_room c.requires _ _ c.rule_for-rule.ensures c.from-size.ensures _ c.if-at-size-gt256.false c.if-rules-listed.true

pub overflow_cast-rules : goal.overflow_cast-rules
overflow_cast-rules c = omega (arith, rule_low c.requires _ _ c.rule_for-rule.ensures refl)

pub push-requires : goal.push-requires
push-requires c =
    record {
      words = omega (arith, rule_low c.requires _ _ c.rule_for-rule.ensures refl, c.requires.look_up.pushes.rows_size);
      cells = omega (arith, c.requires.height, c.requires.cells);
    }

pub overflow_add-right : goal.overflow_add-right
overflow_add-right c = omega (arith, rule_low c.requires _ _ c.rule_for-rule.ensures refl)

pub offset_bounds-sides-rule : goal.offset_bounds-sides-rule
offset_bounds-sides-rule c = omega (arith, rule_low c.requires _ _ c.rule_for-rule.ensures refl)

pub bounds-sides-rule : goal.bounds-sides-rule
bounds-sides-rule c = omega (arith, rule_low c.requires _ _ c.rule_for-rule.ensures refl, c.requires.look_up.pushes.sides_size)

pub expanded-requires : goal.expanded-requires
expanded-requires c = (c.requires.counts, omega (arith, c.requires.some), omega (arith, size_low c.requires _ _ c.rule_for-rule.ensures c.from-size.ensures))

pub returns : goal.returns
returns c =
    expand_on c.requires _ _ c.rule_for-rule.ensures c.from-size.ensures _ c.if-at-size-gt256.false c.if-rules-listed.false c.push.ensures
    c.expanded.ensures refl
