-- The memory that holds the front of an image, and the image of a memory. Assumes nothing.
use Rattle.std.specs.Prelude.{ℕ, zero, suc, ◌+◌, ◌-◌, ◌≤◌, ◌<◌, ◌≡◌, refl, Bool, false, List, map, ltb, length, get_or, take, drop, if◌then◌else◌}
use Rattle.std.proofs.Common.{sym, ap, ◌∙◌, add-zero, arith, lt-ltb, le-ltb, length-take, ext_get_or, get_or-take, get_or-drop}
use Rattle.std.proofs.Math.Path.{fun_ext}
use Rattle.std.proofs.Math.Option.{none, some}
use Rattle.std.proofs.Math.Decide.{dec_lt}
use Rattle.lent.specs.Lists.{any, from}
use Rattle.intel_hex.specs.Import.{Memory, nothing, given, is_given, any_given, byte_or, image_of}
use Rattle.intel_hex.proofs.CellLaws.{given-in, given-before, given-past}

-- the first bytes of an image are given, and no others
unfoldable pub up_to : List ℕ → ℕ → Memory
up_to image end k = if ltb k end then some (get_or image k 0) else none

module _ (image : List ℕ) (end k : ℕ) where
  up_in : k < end → up_to image end k ≡ some (get_or image k 0)
  unfolding up_to
  up_in h = rw (lt-ltb k end h)

  up-past : end ≤ k → up_to image end k ≡ none
  unfolding up_to
  up-past h = rw (le-ltb k end h)

pub up_none : (image : List ℕ) → up_to image 0 ≡ nothing
up_none image = fun_ext (λ k. up-past image 0 k (omega arith))

-- none of the addresses behind them was given
any_none : (p : ℕ → Bool) (a n : ℕ) → ((k : ℕ) → a ≤ k → p k ≡ false) → any p (from a n) ≡ false
unfolding any from
any_none p a zero h = refl
any_none p a (suc n) h = rw (h a (omega arith)) (any_none p (a + 1) n (λ k l. h k (omega arith)))

pub none-behind : (image : List ℕ) (end size : ℕ) → any_given (up_to image end) end size ≡ false
unfolding any_given
none-behind image end size = any_none (λ k. is_given (up_to image end k)) end size (λ k l. ap is_given (up-past image end k l))

-- the next 16 bytes, or as many as there are, are given too
pub up_more : (image : List ℕ) (a : ℕ) → given a (take 16 (drop a image)) (up_to image a) ≡ up_to image (a + length (take 16 (drop a image)))
up_more image a = fun_ext (λ k. go k (dec_lt k a) (dec_lt k (a + length part)))
  where
    part : List ℕ
    part = take 16 (drop a image)

    sixteen : length part ≤ 16
    sixteen = omega (arith, length-take 16 (drop a image))

    go : (k : ℕ) → Dec (k < a) → Dec (k < a + length part) → given a part (up_to image a) k ≡ up_to image (a + length part) k
    go k (yes h) d = given-before a part (up_to image a) k h ∙ up_in image a k h ∙ sym (up_in image (a + length part) k (omega arith))
    go k (no h) (yes l) =
        let there : a + (k - a) ≡ k = omega arith in
        given-in a part (up_to image a) k (omega arith) l
        ∙ ap some (get_or-take 16 (drop a image) (k - a) 0 (omega (arith, sixteen)) ∙ get_or-drop a image (k - a) 0 ∙ ap (λ i. get_or image i 0) there)
        ∙ sym (up_in image (a + length part) k l)
    go k (no h) (no l) =
        given-past a part (up_to image a) k (omega arith) ∙ up-past image a k (omega arith) ∙ sym (up-past image (a + length part) k (omega arith))

-- all of them are the image
map_at : (f : ℕ → ℕ) (a n k : ℕ) → k < n → get_or (map f (from a n)) k 0 ≡ f (a + k)
unfolding from
map_at f a zero k h = absurd (omega arith)
map_at f a (suc n) zero h = ap f (sym (add-zero a))
map_at f a (suc n) (suc k) h = let e : a + 1 + k ≡ a + suc k = omega arith in map_at f (a + 1) n k (omega arith) ∙ ap f e

map-length : (f : ℕ → ℕ) (a n : ℕ) → length (map f (from a n)) ≡ n
unfolding from
map-length f a zero = refl
map-length f a (suc n) = ap suc (map-length f (a + 1) n)

pub image-back : (image : List ℕ) → image_of (up_to image (length image)) (length image) ≡ image
unfolding image_of
image-back image =
    ext_get_or 0 (map byte (from 0 (length image))) image (map-length byte 0 (length image)) (λ k h.
    let e : 0 + k ≡ k = omega arith in
    let l : k < length image = omega (arith, map-length byte 0 (length image)) in
    map_at byte 0 (length image) k l ∙ ap byte e ∙ ap byte_or (up_in image (length image) k l))
  where
    byte : ℕ → ℕ
    byte k = byte_or (up_to image (length image) k)
