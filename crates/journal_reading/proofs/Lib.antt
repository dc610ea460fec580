mod Judging
mod ReadingLaws
