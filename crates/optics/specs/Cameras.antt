-- Cameras: from records of floats to whole sixteenths.
-- A finite float `fin s m e` is m · 2^e, negative where s is true: in size, the fraction m · up e over down e.
use Rattle.std.specs.Prelude.{ℕ, ◌*◌, ◌/◌, Bool, cond, not, ◌&&◌, [], ◌∷◌, ℤ, pos, neg_ℤ, Some, None, Option, nat_le, nat_lt, Float}
use Rattle.std.specs.Float.{nan, inf, fin}
use Rattle.std.specs.Float.Ieee.{up, down}
use Rattle.bintree.specs.Refusals.{Refusal, refusal, Reply, given, refused}
use Rattle.optics.specs.declared.camera.Camera.{Camera}
use Rattle.optics.specs.declared.camera.Camera.TheVariants.{Perspective, Overhead}
use Rattle.optics.specs.declared.camera.CameraFault.{CameraFault}
use Rattle.optics.specs.declared.camera.CameraFault.TheVariants.{EyeX, EyeY, Focal}
use Rattle.optics.specs.declared.lens.Eye.{Eye}
use Rattle.optics.specs.declared.lens.Lens.{Lens}

-- The whole sixteenths in a / c: sixteen times as much, without its fraction.
abbrev pub sixteenths : ℕ → ℕ → ℕ
sixteenths a c = 16 * a / c

-- The number of that size and sign: the fraction was dropped toward zero.
abbrev pub signed : Bool → ℕ → ℤ
signed s k = cond s (neg_ℤ (pos k)) (pos k)

-- An eye coordinate is a number from −1,024 to 1,024. This is it in sixteenths, and none where it is anything else.
unfoldable pub eye_sixteenths : Float → Option ℤ
eye_sixteenths nan = None
eye_sixteenths (inf s) = None
eye_sixteenths (fin s m e) = cond (nat_le (m * up e) (1024 * down e)) (Some (signed s (sixteenths (m * up e) (down e)))) None

-- A focal length is a number of at least 0.0625 and below 4,096. This is it in sixteenths, and none where it is anything else.
unfoldable pub focal_sixteenths : Float → Option ℕ
focal_sixteenths nan = None
focal_sixteenths (inf s) = None
focal_sixteenths (fin s m e) = cond (not s && (nat_le (down e) (16 * (m * up e)) && nat_lt (m * up e) (4096 * down e))) (Some (sixteenths (m * up e) (down e))) None

-- The fields by number: 1 eye x, 2 eye y, 3 focal.
abbrev pub field_number : CameraFault → ℕ
field_number EyeX = 1
field_number EyeY = 2
field_number Focal = 3

-- Refusal 10: a field is not a number, infinite or out of range; which one comes with it.
abbrev pub camera_refusal : CameraFault → Refusal
camera_refusal f = refusal 10 (field_number f ∷ [])

-- A camera in sixteenths, with an eye or with none.
abbrev pub lens : Option Eye → ℕ → Lens
lens e f = record { eye = e; focal = f }

-- The eye of a perspective.
abbrev pub eye : ℤ → ℤ → Eye
eye u v = record { x = u; y = v }

-- Going on with a field's value, or refusing with the field.
abbrev pub field : {A : Type 0} → CameraFault → Option A → (A → Reply Lens) → Reply Lens
field fault (Some a) next = next a
field fault None next = refused (camera_refusal fault)

-- What turning a camera into sixteenths gives. The fields are tested in their order, and the first that will not do is refused.
abbrev pub focusing : Camera → Reply Lens
focusing (Perspective x y f) =
    field EyeX (eye_sixteenths x) (λ u. field EyeY (eye_sixteenths y) (λ v. field Focal (focal_sixteenths f) (λ k. given (lens (Some (eye u v)) k))))
focusing (Overhead f) = field Focal (focal_sixteenths f) (λ k. given (lens None k))
