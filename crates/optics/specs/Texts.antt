-- What a camera's fault prints: its refusal's number, and the number of the field.
use Rattle.std.specs.Prelude.{ℕ, List, ◌++◌, codes}
use Rattle.std.specs.Fmt.{decimal}
use Rattle.optics.specs.declared.camera.CameraFault.{CameraFault}
use Rattle.optics.specs.Cameras.{field_number}

abbrev pub camera_text : CameraFault → List ℕ
camera_text f = codes "refused 10 field " ++ decimal (field_number f)
