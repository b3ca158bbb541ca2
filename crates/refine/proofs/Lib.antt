pub mod MeantTexts
pub mod JoinedParts
pub mod ManyParts
pub mod WrittenTexts
mod WhatIsLeft
mod WhatDiffers
mod JoinedTexts
pub mod EditsDone
pub mod EditsUndone
