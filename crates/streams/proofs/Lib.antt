pub mod SplitLaws
mod StreamLaws
mod TextLaws
mod DifferenceLaws
mod OneDifference
mod ReplayLaws
mod ReplayStreamLaws
pub mod WatchedLaws
mod OneReplay
mod OneRunLaws
mod ShownStates
