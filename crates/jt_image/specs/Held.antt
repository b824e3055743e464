-- The code of an image, and the code of a view.
use Rattle.jt_image.specs.Code.{Code}
use Rattle.jt_image.specs.InPlace.{code_in}
use Rattle.jt_image.specs.declared.image.Image.TheInside as image
use Rattle.jt_image.specs.declared.in_place.View.TheInside as view

abbrev pub image_code : image.Inside → Code
image_code i = code_in i.bytes.items i.offsets

abbrev pub view_code : view.Inside → Code
view_code v = code_in v.bytes.now v.offsets
