mod SameTexts
mod SameTurns
mod ChosenTexts
mod ServedTurns
mod Gone
mod ServeSteps
mod Steps
mod FirstLines
mod Resting
mod RestReasons
mod Clients
mod Ending
mod OverDesk
mod Gaining
mod Places
mod Unfailing
mod TurnSteps
pub mod RightLines
pub mod OverRuns
mod OverAnswers
mod FileTurns
mod OverFiles
mod OpenedTwice
