-- Each answer of a step, from the plain bytes and from what is withheld. Assumes nothing.
use Rattle.std.specs.Prelude.{ℕ, ◌+◌, ◌≤◌, ◌<◌, ◌≡◌, refl, true, false, List, Ok, Err, length}
use Rattle.std.proofs.Common.{sym, ap, arith}
use borrow.Author.Tests.{le-leb, lt-leb, lt-ltb, le-ltb, eq-eqb, ne_eqb}
use Rattle.image.specs.View.{view, cell_at}
use Rattle.image.proofs.ViewLaws.{view-length, view-outside}
use Rattle.image.specs.declared.Stretch.{Stretch}
use Rattle.image.specs.Window.{is_apart}
use Rattle.image.proofs.WindowLaws.{is-apart}
use Rattle.image.specs.fixup.Target.{shown}
use Rattle.image.proofs.fixup.TargetLaws.{Bytes, shown-window}
use Rattle.opcodes.specs.Lengths.{length_of, is_return}
use Rattle.opcodes.specs.OpcodeLaws.{reserved, no_length}
use Rattle.routine.specs.declared.Why.TheVariants as Why
use Rattle.routine.specs.Step.{step_at}
use Rattle.routine.specs.Direct.{row_by}
use Rattle.routine.proofs.DirectLaws.{row_is}

module _ (image : List ℕ) (s : List Stretch) (at : ℕ) where
  abbrev cells : List ℕ
  cells = view image s

  abbrev opcode : ℕ
  opcode = cell_at image at

  abbrev n : ℕ
  n = length_of opcode

  pub step-beyond : length image ≤ at → step_at cells at ≡ Err Why.End
  unfolding step_at
  step-beyond h = rw (view-length image s, le-leb (length image) at h)

  module _ (bytes : Bytes image) (there : at < length image) where
    -- what the tests of the definition are
    opcode-shown : shown cells at 1 ≡ is_apart s at 1
    opcode-shown = shown-window image s bytes at 1 (omega arith)

    pub step-hidden : is_apart s at 1 ≡ false → step_at cells at ≡ Err Why.Withheld
    unfolding step_at
    step-hidden e = rw (view-length image s, lt-leb (length image) at there, opcode-shown, e)

    module _ (seen : is_apart s at 1 ≡ true) where
      same : cell_at cells at ≡ opcode
      same = view-outside image s at ((is-apart s at 1).0 seen at (omega arith) (omega arith))

      pub step-reserved : opcode ≡ 0xA5 → step_at cells at ≡ Err Why.Reserved
      unfolding step_at
      step-reserved e = rw (view-length image s, lt-leb (length image) at there, opcode-shown, seen, same, eq-eqb opcode 0xA5 e)

      module _ (other : opcode ≡ 0xA5 → ⊥) where
        -- past the end, whatever is withheld
        pub step_past : length image < at + n → step_at cells at ≡ Err Why.End
        unfolding step_at
        step_past h = rw (view-length image s, lt-leb (length image) at there, opcode-shown, seen, same, ne_eqb opcode 0xA5 other, lt-ltb (length image) (at + n) h)

        module _ (fit : at + n ≤ length image) where
          all_shown : shown cells at n ≡ is_apart s at n
          all_shown = shown-window image s bytes at n fit

          pub step-touches : is_apart s at n ≡ false → step_at cells at ≡ Err Why.Withheld
          unfolding step_at
          step-touches e =
              rw (view-length image s, lt-leb (length image) at there, opcode-shown, seen, same, ne_eqb opcode 0xA5 other, le-ltb (length image) (at + n) fit, all_shown, e)

          pub step-shown : is_apart s at n ≡ true → step_at cells at ≡ Ok (record { row = row_by image at (at + n) opcode; next = at + n; last = is_return opcode })
          unfolding step_at
          step-shown e =
              rw (view-length image s, lt-leb (length image) at there, opcode-shown, seen, same, ne_eqb opcode 0xA5 other, le-ltb (length image) (at + n) fit, all_shown, e)
              (ap (λ r. Ok (record { row = r; next = at + n; last = is_return opcode })) (sym (row_is image s bytes at n fit e refl)))

-- all of them, and that A5h alone has no length
pub ruleset answers = (step-beyond, step-hidden, step-reserved, step_past, step-touches, step-shown, reserved, no_length)
