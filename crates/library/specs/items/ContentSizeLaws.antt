-- How far the next content stands, and how large it is. Assumes nothing.
use Rattle.std.specs.Prelude.{Option}
use Rattle.std.specs.Prelude.{ℕ, zero, suc, ◌+◌, ◌≤◌, ◌<◌, ◌≡◌, refl, Bool, true, false, List, length}
use Rattle.std.proofs.Common.{sym, subst, ◌∙◌, arith}
use Rattle.lent.specs.ChoiceLaws.{chosen}
use Rattle.lent.specs.Parts.{byte_at, word_at}
use Rattle.omf51.specs.Ends.{End}
use Rattle.std.specs.Prelude.{Some, None, Ok, Err}
use Rattle.omf51.specs.declared.Edition.TheVariants.{One}
use Rattle.omf51.specs.declared.Frame.{Frame}
use Rattle.omf51.specs.declared.Content.{Content}
use Rattle.omf51.specs.Reader.{ReadOutcome, read, stop, refused, many}
use Rattle.omf51.specs.Record.{expected}
use Rattle.omf51.proofs.RecordLaws.{Framed, cut, empty, past, unclosed, whole, framed, not-expected, read_fits, first-expected}
use Rattle.omf51.specs.Module.{fills, fixups_at, sections_at}
use Rattle.omf51.specs.Ends.{end_of}
use Rattle.library.specs.RepeatLaws.{Stayed, many-stays}
use Rattle.library.specs.EndLaws.{MovedEnd}
use Rattle.library.specs.PassLaws.{fixups-move}
use Rattle.library.specs.SectionLaws.{content-whole, section-content, section-moved}
use Rattle.library.specs.declared.items.NextContent.{NextContent}
use Rattle.library.specs.items.Contents.{content_here, content_or, after_section, seek, next_content}
use Rattle.library.specs.items.ContentLaws.{section-passed}

-- what is said of a library of bytes
abbrev pub Bytes : List ℕ → Type 0
Bytes library = (i : ℕ) → byte_at library i < 256

pub word_small : (library : List ℕ) → Bytes library → (i : ℕ) → word_at library i < 65536
word_small library b i = omega (arith, b i, b (i + 1))

-- a content takes seven bytes at least: type, length (2), id, offset (2), checksum
pub record ContentGoes (library : List ℕ) (at : ℕ) (content : Content) (rest : ℕ) : Type 0 where
  pub later : at + 7 ≤ rest
  pub inside : rest ≤ length library
  pub data-inside : content.part.at + content.part.len ≤ length library
  pub data-small : Bytes library → content.part.len < 65536
  pub offset-small : Bytes library → content.offset < 65536

-- a record is as long as it says
abbrev LongAs : List ℕ → ℕ → ReadOutcome Frame → Type 0
LongAs library at (read f next) = f.end ≡ at + 2 + word_at library (at + 1)
LongAs library at stop = Unit
LongAs library at (refused r) = Unit

frame-long : (library : List ℕ) (allowed : ℕ → Bool) (at : ℕ) {f : Frame} {next : ℕ} → expected library allowed at ≡ read f next → LongAs library at (read f next)
unfolding expected
frame-long library allowed at e = subst (LongAs library at) e (chosen (LongAs library at) (allowed (byte_at library at)) (λ q. go (framed library at)) (λ q. tt))
  where
    go : {o : ReadOutcome Frame} → Framed library at o → LongAs library at o
    go (cut l) = tt
    go (empty l z) = tt
    go (past b l) = tt
    go (unclosed b l) = tt
    go (whole b l) = refl

-- the fixups of a content stand behind it
stayed : {A : Type 0} (library : List ℕ) (at next : ℕ) (o : ReadOutcome A) → Stayed library at o → end_of o ≡ Ok (Some next) → at ≤ next
stayed library at next (read a k) s e = let q : k ≡ next = cc in omega (arith, s)
stayed library at next stop s e = let z : ◌≡◌ {A = ℕ} 0 1 = cc in absurd (omega arith)
stayed library at next (refused r) s e = let z : ◌≡◌ {A = ℕ} 0 1 = cc in absurd (omega arith)

module _ (library : List ℕ) (at : ℕ) {f : Frame} {k next : ℕ} (o : expected library fills at ≡ read f k) (e : end_of (sections_at library at) ≡ Ok (Some next)) where
  is-content : (t : Bool) → fills (byte_at library at) ≡ t → fills (byte_at library at) ≡ true
  is-content true q = q
  is-content false q = let z : stop ≡ read f k = sym (not-expected library fills at q) ∙ o in let n : ◌≡◌ {A = ℕ} 0 1 = cc in absurd (omega arith)

  behind : k ≤ next
  behind =
      let p = section-passed library at o e in
      let w = read_fits library fills at o in
      let s = section-content One library at (is-content (fills (byte_at library at)) refl) in
      stayed library k next (many library (fixups_at library) k) (many-stays library (fixups_at library) (fixups-move One library) k w.inside) (sym (content-whole One library at (first-expected library fills at ∙ o) refl p.room) ∙ sym s ∙ e)

  content-large : ContentGoes library at (content_here library f) next
  content-large =
      let p = section-passed library at o e in
      let w = read_fits library fills at o in
      let m : MovedEnd library at (Ok (Some next)) = section-moved One library at e in
      record {
        later = omega (arith, behind, p.room, w);
        inside = m.1;
        data-inside = omega (arith, p.room, w);
        data-small = λ b. omega (arith, p.room, w, frame-long library fills at o, word_small library b (at + 1));
        offset-small = λ b. word_small library b _;
      }

abbrev Sought : List ℕ → ℕ → Option NextContent → Type 0
Sought library at (Some n) = ContentGoes library at n.content n.rest
Sought library at None = Unit

further : (library : List ℕ) (at next : ℕ) (s : Option NextContent) → at ≤ next → Sought library next s → Sought library at s
further library at next (Some n) h g = record {
  later = omega (arith, g.later);
  inside = g.inside;
  data-inside = g.data-inside;
  data-small = g.data-small;
  offset-small = g.offset-small;
}
further library at next None h g = tt

seek-goes : (n : ℕ) (library : List ℕ) (at : ℕ) → Sought library at (seek n library at)
unfolding seek
seek-goes zero library at = tt
seek-goes (suc n) library at = section (end_of (sections_at library at)) refl (seek-goes n library)
  where
    content : (next : ℕ) → end_of (sections_at library at) ≡ Ok (Some next) → ((k : ℕ) → Sought library k (seek n library k)) → (o : ReadOutcome Frame) → expected library fills at ≡ o
        → Sought library at (content_or library (seek n library next) next o)
    content next e rest (read f k) q = content-large library at q e
    content next e rest stop q =
        let m : MovedEnd library at (Ok (Some next)) = section-moved One library at e in
        further library at next (seek n library next) (omega arith) (rest next)
    content next e rest (refused r) q =
        let m : MovedEnd library at (Ok (Some next)) = section-moved One library at e in
        further library at next (seek n library next) (omega arith) (rest next)

    section : (e : End) → end_of (sections_at library at) ≡ e → ((k : ℕ) → Sought library k (seek n library k))
        → Sought library at (after_section library (seek n library) (expected library fills at) e)
    section (Ok (Some next)) e rest = content next e rest (expected library fills at) refl
    section (Ok None) e rest = tt
    section (Err r) e rest = tt

pub content-goes : (library : List ℕ) (at : ℕ) {n : NextContent} → next_content library at ≡ Some n
    → ContentGoes library at n.content n.rest
content-goes library at e = subst (Sought library at) e (seek-goes (suc (length library)) library at)
